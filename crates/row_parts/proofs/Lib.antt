mod EditLemmas
