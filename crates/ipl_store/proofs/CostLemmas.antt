-- What a commit costs.
use Rattle.std.proofs.Common.{◌≡◌, ◌≢◌, ℕ, ◌<◌, ◌+◌, ◌*◌, Bool, false, List, [], ◌∷◌, ◌++◌, refl, ap, subst, arith}
use Rattle.std.proofs.lemmas.Bool.{false≢true}
use Rattle.std.proofs.lemmas.List.Elements.{Contains-append_left, Contains-append_right}
use Rattle.chip_trait.specs.Story.{Story}
use Rattle.chip_trait.specs.Told.{Told}
use Rattle.ipl_meaning.specs.Tables.{Places}
use Rattle.place_taking.proofs.SpendingLemmas.{retiring_of, retiring_then, retiring_at_most, retires_none, retires_still}
use Rattle.unit_io.specs.Costs.{Costs, ProgramsAt, Spends}
use Rattle.unit_io.proofs.CostLemmas.{costs_none, costs_then, costs_at_most, programs_at_cost, spends_none, spends_then, spends_weaker}
use Rattle.txn_status.specs.Status.{room_of}
use Rattle.record_locks.specs.Held.{written_by}
use Rattle.page_frames.specs.declared.pages.Pages.{Pages}
use Rattle.page_frames.specs.Asks.{ErasesAndLogsOf, AsksToWriteNamesOut}
use Rattle.page_frames.specs.Changed.{changed_pages}
use Rattle.ipl_store.specs.declared.transactions.Transactions.{Transactions}
use Rattle.ipl_store.specs.Costs.{pages_to_write, CommitCosts, CommitAsks}

-- what so many pages cost
abbrev PagesOut : ℕ → Places → Places → Bool → Story → Type 0
PagesOut = ErasesAndLogsOf

-- and where each unit has log sectors clean at home no erase
abbrev PagesHome : ℕ → Story → Type 0
PagesHome pages = Costs 0 pages 0 (5 ∷ [])

-- nothing was done
nothing_asked : (names : List ℕ) (pages new : Pages) (t : Told)
    → new.parts.directory ≡ pages.parts.directory
    → AsksToWriteNamesOut names false pages new t t
nothing_asked names pages new t same =
    let k = changed_pages pages names in
    let was = pages.parts.directory in
    let now = new.parts.directory in
    let retired = ap (λ (it : Places). it.retired) same in record {
      costs = spends_none (PagesOut k was now false) t (record {
        costs = retiring_at_most was now 0 k 0 k 0 (3 * k) (5 ∷ []) (5 ∷ []) [] (omega arith)
            (omega arith) (omega arith) (λ kind has. has)
            (retiring_of was now 0 0 0 (5 ∷ []) [] retired (costs_none (5 ∷ [])));
        retires = retires_none was now false [] retired refl (λ p is. false≢true is);
      });
      homes = λ has. spends_none (PagesHome k) t (costs_at_most 0 0 0 k 0 0 (5 ∷ []) (5 ∷ []) []
          (omega arith) (omega arith) (omega arith) (λ kind has. has) (costs_none (5 ∷ [])));
    }

-- the pages of names were written out, where nothing was done before
pub names_out_asks : (names : List ℕ) (worn_out : Bool) (old mid new : Pages)
    (before between after : Told) → mid ≡ old → between ≡ before
    → AsksToWriteNamesOut names worn_out mid new between after
    → AsksToWriteNamesOut names worn_out old new before after
names_out_asks names worn_out old mid new before between after same idle did =
    subst (λ (p : Pages). AsksToWriteNamesOut names worn_out p new before after) same
    (subst (λ (t : Told). AsksToWriteNamesOut names worn_out mid new t after) idle did)

-- no number was added
pages_cost : (k : ℕ) (was now : Places) (worn_out : Bool) (old new : Told)
    → Spends (PagesOut k was now worn_out) old new → Spends (CommitCosts k was now worn_out) old new
pages_cost k was now worn_out old new =
    spends_weaker (PagesOut k was now worn_out) (CommitCosts k was now worn_out) old new
    (λ added does. record {
      costs = retiring_at_most was now k k k (k + 1) (3 * k) (3 * k + 2) (5 ∷ []) (5 ∷ 6 ∷ []) added
          (omega arith) (omega arith) (omega arith)
          (λ kind. Contains-append_left (5 ∷ []) (6 ∷ []) kind) does.costs;
      retires = does.retires;
    })

-- one was
commit_cost : (k place : ℕ) (was mid now : Places) (worn_out : Bool) (old between new : Told)
    → now.retired ≡ mid.retired → worn_out ≡ false → Spends (PagesOut k was mid false) old between
    → Spends (ProgramsAt place 1 2 6) between new → Spends (CommitCosts k was now worn_out) old new
commit_cost k place was mid now worn_out old between new same still =
    spends_then (PagesOut k was mid false) (ProgramsAt place 1 2 6) (CommitCosts k was now worn_out)
    old between new (λ later earlier out number.
    let costs = programs_at_cost place 1 2 6 later number in record {
      costs = retiring_at_most was now (k + 0) k (k + 1) (k + 1) (3 * k + 2) (3 * k + 2)
          (5 ∷ 6 ∷ []) (5 ∷ 6 ∷ []) (later ++ earlier) (omega arith) (omega arith) (omega arith)
          (λ kind has. has)
          (retiring_then was mid now k 0 k 1 (3 * k) 2 (5 ∷ 6 ∷ []) later earlier
          (retiring_at_most was mid k k k k (3 * k) (3 * k) (5 ∷ []) (5 ∷ 6 ∷ []) earlier
          (omega arith) (omega arith) (omega arith)
          (λ kind. Contains-append_left (5 ∷ []) (6 ∷ []) kind) out.costs)
          (retiring_of mid now 0 1 2 (5 ∷ 6 ∷ []) later same
          (costs_at_most 0 0 1 1 2 2 (6 ∷ []) (5 ∷ 6 ∷ []) later
          (omega arith) (omega arith) (omega arith)
          (λ kind. Contains-append_right (5 ∷ []) (6 ∷ []) kind) costs)));
      retires = retires_still was mid now worn_out later earlier costs.erased same still out.retires;
    })

-- ---- where each unit has log sectors clean at home

-- no number was added
unnumbered_homes : (k : ℕ) (old new : Told) → Spends (Costs 0 k 0 (5 ∷ [])) old new
    → Spends (Costs 0 (k + 1) 2 (5 ∷ 6 ∷ [])) old new
unnumbered_homes k old new = spends_weaker (Costs 0 k 0 (5 ∷ []))
    (Costs 0 (k + 1) 2 (5 ∷ 6 ∷ [])) old new
    (λ added. costs_at_most 0 0 k (k + 1) 0 2 (5 ∷ []) (5 ∷ 6 ∷ []) added
    (omega arith) (omega arith) (omega arith)
    (λ kind. Contains-append_left (5 ∷ []) (6 ∷ []) kind))

-- one was
numbered_homes : (k place : ℕ) (old mid new : Told) → Spends (Costs 0 k 0 (5 ∷ [])) old mid
    → Spends (ProgramsAt place 1 2 6) mid new → Spends (Costs 0 (k + 1) 2 (5 ∷ 6 ∷ [])) old new
numbered_homes k place old mid new = spends_then (Costs 0 k 0 (5 ∷ [])) (ProgramsAt place 1 2 6)
    (Costs 0 (k + 1) 2 (5 ∷ 6 ∷ [])) old mid new (λ later earlier out number.
    costs_then 0 0 k 1 0 2 (5 ∷ 6 ∷ []) later earlier
    (costs_at_most 0 0 k k 0 0 (5 ∷ []) (5 ∷ 6 ∷ []) earlier
    (omega arith) (omega arith) (omega arith)
    (λ kind. Contains-append_left (5 ∷ []) (6 ∷ []) kind) out)
    (costs_at_most 0 0 1 1 2 2 (6 ∷ []) (5 ∷ 6 ∷ []) later
    (omega arith) (omega arith) (omega arith)
    (λ kind. Contains-append_right (5 ∷ []) (6 ∷ []) kind)
    (programs_at_cost place 1 2 6 later number)))

-- ---- all that a commit asks

-- its sessions wrote nothing
pub empty_asks : (it : Transactions) (ss : List ℕ) (new : Pages) (t : Told)
    → new.parts.directory ≡ it.pages.parts.directory → CommitAsks it ss false new t t
empty_asks it ss new t same =
    let k = pages_to_write it ss in
    let none = nothing_asked (written_by it.sessions ss) it.pages new t same in record {
      idle = λ none. refl;
      costs = λ room. pages_cost k it.pages.parts.directory new.parts.directory false t t none.costs;
      homes = λ room has. unnumbered_homes k t t (none.homes has);
    }

module _ (it : Transactions) (ss : List ℕ) (first : Bool) (mid : Pages)
    (old between : Told) (some : written_by it.sessions ss ≢ [])
    (out : 0 < room_of it.pages.parts.status
    → AsksToWriteNamesOut (written_by it.sessions ss) first it.pages mid old between) where
  -- their records weren't written out
  pub unwritten_asks : CommitAsks it ss first mid old between
  unwritten_asks = record {
    idle = λ none. absurd (some none);
    costs = λ room. pages_cost (pages_to_write it ss) it.pages.parts.directory mid.parts.directory
        first old between (out room).costs;
    homes = λ room has. unnumbered_homes (pages_to_write it ss) old between ((out room).homes has);
  }

  -- they were, and the numbers were added, or not
  pub commit_asks : first ≡ false → (place : ℕ) (worn_out : Bool) (last : Pages) (new : Told) → last.parts.directory.retired ≡ mid.parts.directory.retired
      → worn_out ≡ false → Spends (ProgramsAt place 1 2 6) between new
      → CommitAsks it ss worn_out last old new
  commit_asks done place worn_out last new same still numbers = record {
    idle = λ none. absurd (some none);
    costs = λ room. commit_cost (pages_to_write it ss) place it.pages.parts.directory
        mid.parts.directory last.parts.directory worn_out old between new same still
        (subst (λ (b : Bool). Spends (PagesOut (pages_to_write it ss) it.pages.parts.directory
        mid.parts.directory b) old between) done (out room).costs) numbers;
    homes = λ room has. numbered_homes (pages_to_write it ss) place old between new
        ((out room).homes has) numbers;
  }
