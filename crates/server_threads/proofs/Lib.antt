mod BackLemmas
