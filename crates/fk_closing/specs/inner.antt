pub mod BroughtLaws
