mod TypedLemmas
