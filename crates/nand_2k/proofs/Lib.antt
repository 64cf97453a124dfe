mod SectorLemmas
