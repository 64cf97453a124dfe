-- What calls spend, one after another.
use Rattle.std.proofs.Common.{◌≡◌, ◌≤◌, ℕ, Bool, true, false, [], ◌∷◌, ◌++◌, Err, arith, refl, ◌∙◌, subst}
use Rattle.std.specs.List.{All}
use Rattle.std.proofs.lemmas.Bool.{false≢true}
use Rattle.std.proofs.lemmas.List.Elements.{All-head, All-tail}
use Rattle.chip_trait.specs.declared.event.Event.{Event}
use Rattle.chip_trait.specs.declared.event.Event.TheVariants.{Read, Program, Erase, Worn, Barrier, Said}
use Rattle.chip_trait.specs.Story.{Story}
use Rattle.chip_trait.specs.Told.{Told}
use Rattle.ipl_base.specs.declared.fault.ChipFault.{ChipFault}
use Rattle.ipl_base.specs.declared.fault.ChipFault.TheVariants.{ReadFault, Stopped, Damaged, Malformed, WornOut}
use Rattle.ipl_meaning.specs.Tables.{Places}
use Rattle.unit_io.specs.Costs.{Costs, ProgramsAt, Spends, erases}
use Rattle.unit_io.specs.ReadsAt.{IsCauseAt, IsReadAt, ReadsAt}
use Rattle.unit_io.proofs.CostLemmas.{costs_none, costs_reads, erased_joined, nothing_at, spends_at_then, spends_none, spends_then, spends_weaker}
use Rattle.place_taking.specs.Spending.{ErasesFree, ErasesFor, tells_worn}
use Rattle.place_taking.specs.Takes.{ErasesNext}
use Rattle.place_taking.proofs.CountedLemmas.{counted_none, counted_then, keeps_counts}
use Rattle.place_taking.proofs.JoinLemmas.{costs_of_untaken}
use Rattle.place_taking.proofs.SpendingLemmas.{none_found, or_left, retiring_at_most, retiring_of, retiring_then, retires_behind, retires_none, tries_behind, tries_none}
use Rattle.selective_merge.specs.Homes.{MoveCause}

-- ---- reads

-- reads program nothing
at_reads : (At : ℕ → ℕ → Type 0) (place kind : ℕ) (added : Story) → All (IsReadAt At) added
    → ProgramsAt place 0 0 kind added
at_reads At place kind [] reads = nothing_at place 0 0 kind
at_reads At place kind (e ∷ older) reads =
    by_event e (All-head (IsReadAt At) e older reads)
    (at_reads At place kind older (All-tail (IsReadAt At) e older reads))
  where
    by_event : (e : Event) → IsReadAt At e → ProgramsAt place 0 0 kind older
        → ProgramsAt place 0 0 kind (e ∷ older)
    by_event (Read p s) is rest =
        record { only = rest.only; programmed = rest.programmed; barred = rest.barred }
    by_event (Program p s bytes) is rest = absurd is
    by_event (Erase p) is rest = absurd is
    by_event Barrier is rest = absurd is
    by_event (Worn q) is rest = absurd is
    by_event (Said piece) is rest = absurd is

pub spends_read : (At : ℕ → ℕ → Type 0) (place kind : ℕ) (old new : Told) → ReadsAt At old new
    → Spends (ProgramsAt place 0 0 kind) old new
spends_read At place kind old new did = record {
  added = did.added;
  does = at_reads At place kind did.added did.each;
  history = did.history;
}

-- programs behind reads
pub programs_behind : (At : ℕ → ℕ → Type 0) (place n kind : ℕ) (old mid new : Told)
    → ReadsAt At old mid → Spends (ProgramsAt place n 0 kind) mid new
    → Spends (ProgramsAt place n 0 kind) old new
programs_behind At place n kind old mid new did =
    subst (λ (k : ℕ). Spends (ProgramsAt place n 0 kind) mid new
    → Spends (ProgramsAt place k 0 kind) old new) (omega arith)
    (spends_at_then place 0 n 0 0 kind old mid new (spends_read At place kind old mid did))

-- what is tried behind reads
reads_erase_none : (At : ℕ → ℕ → Type 0) (added : Story) → All (IsReadAt At) added
    → erases added ≤ 0
reads_erase_none At added reads = (costs_reads At [] added reads).erased

free_behind : (At : ℕ → ℕ → Type 0) (before after : Places) (worn_out : Bool)
    (later earlier : Story) → All (IsReadAt At) earlier → ErasesFree before after 3 worn_out later
    → ErasesFree before after 3 worn_out (later ++ earlier)
free_behind At before after worn_out later earlier reads does =
    let none = reads_erase_none At earlier reads in record {
      costs = retiring_then before before after 0 1 0 0 0 3 [] later earlier
          (retiring_of before before 0 0 0 [] earlier refl (costs_reads At [] earlier reads)) does.costs;
      tries = tries_behind before after later earlier none does.tries;
      retires = retires_behind before after worn_out later earlier none does.retires;
      counted = counted_then later earlier before before after
          (counted_none earlier before before none (keeps_counts before before refl)) does.counted;
    }

pub erases_free_behind : (At : ℕ → ℕ → Type 0) (before after : Places) (worn_out : Bool)
    (old mid new : Told) → ReadsAt At old mid → Spends (ErasesFree before after 3 worn_out) mid new
    → Spends (ErasesFree before after 3 worn_out) old new
erases_free_behind At before after worn_out old mid new did =
    spends_then (All (IsReadAt At)) (ErasesFree before after 3 worn_out)
    (ErasesFree before after 3 worn_out) old mid new
    (λ later earlier reads does. free_behind At before after worn_out later earlier reads does)
    (record { added = did.added; does = did.each; history = did.history })

pub erases_for_behind : (At : ℕ → ℕ → Type 0) (before after : Places) (place : ℕ)
    (done worn_out : Bool) (old mid new : Told) → ReadsAt At old mid
    → Spends (ErasesFor before after 3 place done worn_out) mid new
    → Spends (ErasesFor before after 3 place done worn_out) old new
erases_for_behind At before after place done worn_out old mid new did =
    spends_then (All (IsReadAt At)) (ErasesFor before after 3 place done worn_out)
    (ErasesFor before after 3 place done worn_out) old mid new (λ later earlier reads does. record {
      erases = free_behind At before after worn_out later earlier reads does.erases;
      erased = λ is. erased_joined later earlier place ∙ or_left _ _ (does.erased is);
    }) (record { added = did.added; does = did.each; history = did.history })

-- ---- a call that takes no place

free_none : (before : Places) (worn_out : Bool) (added : Story) → worn_out ≡ false
    → erases added ≤ 0 → Costs 0 0 0 [] added → ErasesFree before before 3 worn_out added
free_none before worn_out added still none costs = record {
  costs = retiring_at_most before before 0 1 0 0 0 3 [] [] added (omega arith) (omega arith)
      (omega arith) (λ kind has. has) (retiring_of before before 0 0 0 [] added refl costs);
  tries = tries_none before before added none refl;
  retires = retires_none before before worn_out added refl still (λ p. none_found p added none);
  counted = counted_none added before before none (keeps_counts before before refl);
}

-- a fault of a read is no worn place
pub read_not_worn : (At : ℕ → ℕ → Type 0) (fault : ChipFault) (old new : Told)
    → IsCauseAt At fault old new → tells_worn fault ≡ false
read_not_worn At ReadFault old new cause = refl
read_not_worn At Stopped old new cause = refl
read_not_worn At (Damaged p s stored computed) old new cause = refl
read_not_worn At (Malformed p s) old new cause = refl
read_not_worn At (WornOut n) old new cause = absurd cause

-- nor is one of writing to a place that was taken
pub move_not_worn : (place : ℕ) (fault : ChipFault) (old new : Told)
    → MoveCause place fault old new → tells_worn fault ≡ false
move_not_worn place ReadFault old new cause = refl
move_not_worn place Stopped old new cause = refl
move_not_worn place (Damaged p s stored computed) old new cause = refl
move_not_worn place (Malformed p s) old new cause = refl
move_not_worn place (WornOut n) old new cause = absurd cause

-- reads alone
pub frees_read : (At : ℕ → ℕ → Type 0) (before : Places) (worn_out : Bool) (old new : Told)
    → worn_out ≡ false → ReadsAt At old new → Spends (ErasesFree before before 3 worn_out) old new
frees_read At before worn_out old new still did = record {
  added = did.added;
  does = free_none before worn_out did.added still (reads_erase_none At did.added did.each)
      (costs_reads At [] did.added did.each);
  history = did.history;
}

pub for_read : (At : ℕ → ℕ → Type 0) (before : Places) (place : ℕ) (worn_out : Bool)
    (old new : Told) → worn_out ≡ false → ReadsAt At old new
    → Spends (ErasesFor before before 3 place false worn_out) old new
for_read At before place worn_out old new still did =
    let free = frees_read At before worn_out old new still did in record {
      added = free.added;
      does = record { erases = free.does; erased = λ is. absurd (false≢true is) };
      history = free.history;
    }

-- nothing at all
pub frees_none : (before : Places) (t : Told) → Spends (ErasesFree before before 3 false) t t
frees_none before t =
    spends_none (ErasesFree before before 3 false) t
    (free_none before false [] refl (omega arith) (costs_none []))

pub for_none : (before : Places) (place : ℕ) (t : Told)
    → Spends (ErasesFor before before 3 place false false) t t
for_none before place t = record {
  added = (frees_none before t).added;
  does = record { erases = (frees_none before t).does; erased = λ is. absurd (false≢true is) };
  history = (frees_none before t).history;
}

-- ---- a call that takes one

-- done, it is where the unit stands
pub for_unit : (before after : Places) (place at : ℕ) (worn_out : Bool) (old new : Told) → at ≡ place
    → Spends (ErasesFor before after 3 place true worn_out) old new
    → Spends (ErasesFor before after 3 at true worn_out) old new
for_unit before after place at worn_out old new is does = rw is does

-- not done, it is nobody's
pub for_nobody : (before after : Places) (place at : ℕ) (worn_out : Bool) (old new : Told)
    → Spends (ErasesFor before after 3 place false worn_out) old new
    → Spends (ErasesFor before after 3 at false worn_out) old new
for_nobody before after place at worn_out old new =
    spends_weaker (ErasesFor before after 3 place false worn_out)
    (ErasesFor before after 3 at false worn_out) old new
    (λ added does. record { erases = does.erases; erased = λ is. absurd (false≢true is) })

-- and where none could be taken
pub frees_untaken : (before after : Places) (e : ChipFault) (old new : Told)
    → Spends (ErasesNext before (Err e) after) old new
    → Spends (ErasesFree before after 3 (tells_worn e)) old new
frees_untaken before after e old new = costs_of_untaken before after 3 e old new (omega arith)

pub for_untaken : (before after : Places) (at : ℕ) (e f : ChipFault) (old new : Told) → f ≡ e
    → Spends (ErasesNext before (Err e) after) old new
    → Spends (ErasesFor before after 3 at false (tells_worn f)) old new
for_untaken before after at e f old new same did =
    let free = frees_untaken before after e old new did in rw same (record {
      added = free.added;
      does = record { erases = free.does; erased = λ is. absurd (false≢true is) };
      history = free.history;
    })

-- what was erased for a unit was free
pub frees_for : (before after : Places) (place : ℕ) (done worn_out : Bool) (old new : Told)
    → Spends (ErasesFor before after 3 place done worn_out) old new
    → Spends (ErasesFree before after 3 worn_out) old new
frees_for before after place done worn_out old new =
    spends_weaker (ErasesFor before after 3 place done worn_out)
    (ErasesFree before after 3 worn_out) old new (λ added does. does.erases)
