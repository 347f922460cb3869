mod DrawLemmas
mod MeantLemmas
