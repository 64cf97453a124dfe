-- Logs with one write more.
use Rattle.std.proofs.Common.{◌≡◌, ℕ, ◌+◌, ◌<◌, List, [], ◌∷◌, ◌++◌, map, reverse, length, take, get_or, ◌∙◌, ap}
use Rattle.std.proofs.lemmas.List.{take_more, map-append, reverse-append}
use Rattle.ipl_model.specs.declared.plain_model.log.Write.{Write}
use Rattle.ipl_model.specs.Plain.{newest_first, write_of}

pub newest_first-append : (a b : List Write) → newest_first (a ++ b) ≡ newest_first b ++ newest_first a
newest_first-append a b = ap reverse (map-append write_of a b) ∙ reverse-append (map write_of a) (map write_of b)

pub newest_first_more : (log : List Write) (i : ℕ) (d : Write) → i < length log → newest_first (take (i + 1) log) ≡ write_of (get_or log i d) ∷ newest_first (take i log)
newest_first_more log i d lt = ap newest_first (take_more log i d lt) ∙ newest_first-append (take i log) (get_or log i d ∷ [])
