-- Keys in order.
use Rattle.std.proofs.Common.{◌≡◌, ℕ, Bool, true, false, List, [], ◌∷◌, ◌∙◌, ap, sym, refl, subst, None}
use Rattle.std.specs.Prelude.{T, ◌&&◌}
use Rattle.std.specs.declared.cmp.Ordering.{Ordering}
use Rattle.std.specs.declared.cmp.Ordering.TheVariants.{Less, Equal, Greater}
use Rattle.std.specs.Ordering.{is_lt, is_eq, eq_by_cmp, ordering_reverse}
use Rattle.std.specs.Cmp.{IsTotalOrder}
use Rattle.std.specs.Cmp.Lexicographic.{nat_list_cmp_total}
use Rattle.std.specs.FinMap.{nat_cmp-IsAntisymmetric, slice_cmp-IsAntisymmetric}
use Rattle.std.specs.FinMap.Entries.{below_all}
use Rattle.ipl_keys.specs.BucketPairs.{Pairs, by_bytes, value_at, remove_pair}

pub bytes_total : IsTotalOrder by_bytes
bytes_total = nat_list_cmp_total

pub same_key : (one other : List ℕ) → by_bytes one other ≡ Equal → one ≡ other
same_key one other e = slice_cmp-IsAntisymmetric nat_cmp-IsAntisymmetric one other e

pub reversed : (one other : List ℕ) (r : Ordering) → by_bytes one other ≡ r → by_bytes other one ≡ ordering_reverse r
reversed one other r e = bytes_total.antisymm other one ∙ ap ordering_reverse e

pub t_both : (a b : Bool) → T a → T b → T (a && b)
t_both true b p q = q
t_both false b p q = p

pub t_first : (a b : Bool) → T (a && b) → T a
t_first true b p = tt
t_first false b p = p

pub t_second : (a b : Bool) → T (a && b) → T b
t_second true b p = p
t_second false b p = absurd p

pub less_is : (o : Ordering) → T (is_lt o) → o ≡ Less
less_is Less p = refl
less_is Equal p = absurd p
less_is Greater p = absurd p

pub is_less : (o : Ordering) → o ≡ Less → T (is_lt o)
is_less o e = subst (λ (r : Ordering). T (is_lt r)) (sym e) tt

-- what is below a key is below all that the key is below
pub below_less : (one key : List ℕ) (pairs : Pairs) → by_bytes one key ≡ Less → T (below_all by_bytes key pairs) → T (below_all by_bytes one pairs)
below_less one key [] e h = tt
below_less one key (p ∷ pairs) e h =
    t_both _ _ (is_less _ (bytes_total.trans one key p.0 e (less_is _ (t_first _ _ h)))) (below_less one key pairs e (t_second _ _ h))

-- a key that is below all isn't among them
pub record IsAbsent (key : List ℕ) (pairs : Pairs) : Type 0 where
  pub kept : remove_pair key pairs ≡ pairs
  pub none : value_at key pairs ≡ None

pub below_absent : (key : List ℕ) (pairs : Pairs) → T (below_all by_bytes key pairs) → IsAbsent key pairs
below_absent key [] h = record { kept = refl; none = refl }
below_absent key (p ∷ pairs) h =
    let less = less_is _ (t_first _ _ h) in
    let apart : eq_by_cmp by_bytes key p.0 ≡ false = ap is_eq less in
    let rest = below_absent key pairs (t_second _ _ h) in
    record {
      kept = rw apart (ap (λ (ps : Pairs). p ∷ ps) rest.kept);
      none = rw apart rest.none;
    }
