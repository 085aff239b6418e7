mod HeaderLemmas
mod MemoryLemmas
mod SegmentLemmas
mod SweepLemmas
mod OverlapLemmas
mod SymbolLemmas
mod LoadLemmas
mod LawLemmas
