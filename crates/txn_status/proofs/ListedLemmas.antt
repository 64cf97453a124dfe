-- Which retired places the header of a new status place lists.
use Rattle.std.proofs.Common.{◌≡◌, ℕ, ◌^◌, leb, List, [], ◌++◌, drop, All, append_assoc, refl, sym, ◌∙◌, ap, subst, arith}
use Rattle.std.specs.Prelude.{if◌then◌else◌}
use Rattle.std.proofs.lemmas.List.{drop-drop, drop_at}
use Rattle.chip_trait.specs.Told.{Told}
use Rattle.ipl_format.specs.Header.{IsWithin, SpellsStatusHeader, erases_bytes, retired_bytes}
use Rattle.ipl_format.specs.Numbers.{word}
use Rattle.ipl_format.proofs.NumberLemmas.{length-word}
use Rattle.ipl_meaning.specs.Chart.{Chart, chart_of}
use Rattle.unit_io.specs.Charts.{Charts}
use Rattle.unit_layout.specs.Retired.{retired_in, words_in}
use Rattle.unit_layout.proofs.StatusLemmas.{status_retired}
use Rattle.txn_status.specs.Switching.{HasParts, ListsAt}
use Rattle.txn_status.specs.Writing.{IsHeaded}
use Rattle.txn_status.proofs.KeptLemmas.{put_there}

-- what is listed stands behind the number of units, whatever that is
behind_units : (units : ℕ) (counts listed : List ℕ)
    → drop 9 ((word units ++ counts) ++ listed) ≡ drop 5 (counts ++ listed)
behind_units units counts listed =
    ap (drop 9) (append_assoc (word units) counts listed)
    ∙ sym (drop-drop 5 4 (word units ++ (counts ++ listed)))
    ∙ ap (drop 5) (drop_at (word units) (counts ++ listed) 4 (length-word units))

-- a status header that is spelled lists its retired places, on whatever chip: they are numbers of
-- four bytes
header_lists : (version places units : ℕ) (payload : List ℕ)
    → (it : SpellsStatusHeader version places units payload) → All (IsWithin (2 ^ 32)) it.retired
    → retired_in version payload ≡ it.retired
header_lists version places units payload it small =
    let counts = erases_bytes version it.erases in
    let listed = retired_bytes version it.retired in
    ap (λ (bytes : List ℕ). words_in (if leb 3 version then bytes else []))
    (ap (drop 9) it.bytes ∙ behind_units units counts listed ∙ sym (behind_units 0 counts listed))
    ∙ status_retired version (2 ^ 32) 0 ((word 0 ++ counts) ++ listed) (omega arith) (record {
      erases = it.erases;
      retired = it.retired;
      bytes = refl;
      fits = omega arith;
      counted = it.counted;
      listed = record {
        rising = it.listed.rising;
        within = small;
        few = it.listed.few;
        spare = omega (arith, it.listed.few);
        none = it.listed.none;
      };
    })

-- so does the header of a new status place
headed_lists : (places p units erases : ℕ) (retired : List ℕ) (generation : ℕ) (c y : Chart)
    → All (IsWithin (2 ^ 32)) retired → IsHeaded places p units erases retired generation c y
    → ListsAt p retired y
headed_lists places p units erases retired generation c y small (head, is, gains) = (
  head,
  ap (λ (z : Chart). z p 0) gains ∙ put_there c p 0 head,
  header_lists head.version places units head.payload is.counts
      (subst (λ (l : List ℕ). All (IsWithin (2 ^ 32)) l) (sym is.lists) small) ∙ is.lists,
)

-- that has the parts of the numbers already
pub lists_told : (places p units erases : ℕ) (retired : List ℕ) (next : ℕ) (kept : List ℕ) (n : ℕ)
    (old mid new : Told) → All (IsWithin (2 ^ 32)) retired
    → ((serial : ℕ) × Charts (HasParts p next serial kept n) old mid)
    → Charts (IsHeaded places p units erases retired next) mid new
    → Charts (λ c y. ListsAt p retired y) old new
lists_told places p units erases retired next kept n old mid new small parts headed x tells =
    let between = parts.1 x tells in
    let ends = headed between.0 between.1 in (
      ends.0,
      ends.1,
      headed_lists places p units erases retired next (chart_of between.0)
          (chart_of ends.0) small ends.2,
    )
