mod PcLemmas
