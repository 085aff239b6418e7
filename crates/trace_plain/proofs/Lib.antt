mod FollowLemmas
mod ListLemmas
