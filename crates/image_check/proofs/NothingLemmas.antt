-- While no session is open nothing is pending.
use Rattle.std.proofs.Common.{◌≡◌, ◌≤◌, ℕ, Bool, true, false, ◌&&◌, ◌==◌, List, [], ◌∷◌, Option, Some, None, if◌then◌else◌, refl, ◌∙◌, ap}
use Rattle.ipl_base.specs.Sizes.{size_of_values}
use Rattle.ipl_format.specs.Record.{Record}
use Rattle.ipl_meaning.specs.Last.{last_that}
use Rattle.ipl_meaning.specs.Layout.{Layout, records_of}
use Rattle.ipl_meaning.specs.Values.{Values, counts_for}
use Rattle.number_set.specs.Numbers.{among}
use Rattle.page_ops.specs.Pending.{Pendings, fill_by, peak_of}
use Rattle.page_ops.proofs.FillLemmas.{unpeaked_fill}
use Rattle.page_rebuild.specs.Taken.{pending_of}
use Rattle.page_rebuild.specs.Loaded.{loaded_pending}

not_both : (a b : Bool) → (a && (b && false)) ≡ false
not_both true true = refl
not_both true false = refl
not_both false b = refl

last_none : (page slot : ℕ) (records : List Record) → last_that (counts_for (among []) page slot) records None ≡ None
last_none page slot [] = refl
last_none page slot (r ∷ records) =
    ap (λ (b : Bool). last_that (counts_for (among []) page slot) records (if b then Some r else None))
    (not_both (r.page == page) (r.slot == slot))
    ∙ last_none page slot records

pub nothing_pending : (it : Layout) (u page slot : ℕ) → loaded_pending it (among []) u page slot ≡ None
nothing_pending it u page slot = ap pending_of (last_none page slot (records_of (it.units u).log))

-- so a page takes what its values do
pub fills_alone : (values : Values) (pending : Pendings) → ((slot : ℕ) → pending slot ≡ None)
    → fill_by values pending ≤ size_of_values values
fills_alone values pending none = unpeaked_fill (λ slot. peak_of (pending slot)) values (λ slot low. ap peak_of (none slot))
