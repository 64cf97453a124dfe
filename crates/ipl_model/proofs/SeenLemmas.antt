-- What the records are after writes.
use Rattle.std.proofs.Common.{◌≡◌, ℕ, ◌==◌, Bool, true, false, cond, List, [], ◌∷◌, Option, Some, None, refl, ◌∙◌, ap, arith}
use Rattle.std.specs.Cmp.{nat_cmp_total}
use Rattle.std.specs.FinMap.{get, insert, remove, get-insert, get-remove}
use Rattle.std.specs.Option.{option_map_or}
use Rattle.std.specs.Ordering.{nat_cmp, eq_by_cmp}
use Rattle.std.proofs.lemmas.Bool.Decides.{nat_tests}
use Rattle.ipl_model.specs.State.{Map, Write, last_write, with_writes, seen_through}

same_key : (q k : ℕ) → eq_by_cmp nat_cmp q k ≡ (k == q)
same_key q k = grind (arith, nat_tests)

-- after the writes a name has what was seen through them
pub get-with_writes : (writes : List Write) (m : Map) (q : ℕ) → get (with_writes writes m) q ≡ seen_through writes m q
get-with_writes [] m q = refl
get-with_writes (w ∷ older) m q = by_change w.1 (get-with_writes older m q)
  where
    at_key : (t : Bool) (change : Option (List ℕ)) (o : Option (Option (List ℕ))) → cond t change (option_map_or (λ c. c) o (get m q)) ≡ option_map_or (λ c. c) (cond t (Some change) o) (get m q)
    at_key true change o = refl
    at_key false change o = refl

    by_change : (change : Option (List ℕ)) → get (with_writes older m) q ≡ seen_through older m q
        → get (option_map_or (λ value. insert (with_writes older m) w.0 value) change (remove (with_writes older m) w.0)) q
        ≡ option_map_or (λ c. c) (cond (w.0 == q) (Some change) (last_write older q)) (get m q)
    by_change None rest =
        get-remove nat_cmp_total (with_writes older m) w.0 q ∙ ap (λ (t : Bool). cond t None (get (with_writes older m) q)) (same_key q w.0)
        ∙ ap (cond (w.0 == q) None) rest ∙ at_key (w.0 == q) None (last_write older q)
    by_change (Some value) rest =
        get-insert nat_cmp_total (with_writes older m) w.0 value q ∙ ap (λ (t : Bool). cond t (Some value) (get (with_writes older m) q)) (same_key q w.0)
        ∙ ap (cond (w.0 == q) (Some value)) rest ∙ at_key (w.0 == q) (Some value) (last_write older q)
