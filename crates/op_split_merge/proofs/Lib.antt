mod ShownLemmas
mod CallLemmas
