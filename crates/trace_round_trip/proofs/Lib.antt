mod AsciiLemmas
mod LineCutLemmas
mod PrintedLemmas
mod SpellLemmas
mod TraceCutLemmas
