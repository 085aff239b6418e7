mod PlaceLemmas
mod ReprintLemmas
