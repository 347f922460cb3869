mod NamedFiles
