mod SuitsLemmas
