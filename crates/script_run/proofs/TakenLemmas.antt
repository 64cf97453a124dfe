-- The records looked up, in one part after another.
use Rattle.std.proofs.Common.{◌≡◌, ℕ, ◌+◌, ◌≤◌, true, false, List, [], ◌∷◌, ◌++◌, map, Option, Some, None, Ok, Err, sym, ◌∙◌, ap, subst, append_assoc, add-one, zero-add}
use Rattle.std.proofs.lemmas.List.{append-nil, map-append}
use Rattle.std.specs.FinMap.{get}
use Rattle.ipl_model.specs.State.{Map, State, Limits}
use Rattle.ipl_model.specs.Operations.{rows_from, row_of}
use Rattle.ipl_model.specs.declared.reply.Reply.TheVariants as reply
use Rattle.ipl_model.specs.Step.{row_reply}
use Rattle.ipl_model.specs.Text.{reply_text}
use Rattle.chip_trait.specs.Told.{History, Told, adds_all}
use Rattle.store_trait.specs.declared.fault.Fault.{Fault}
use Rattle.store_trait.specs.Keeping.{Keeping, LooksUpFor}
use Rattle.store_trait.proofs.OnwardLemmas.{unrisen_later}
use Rattle.script_run.specs.Goes.{row_lines}
use Rattle.script_run.proofs.RunLemmas.{twice_added}
use Rattle.script_run.specs.TrialSummary.{RecordSum, HasTaken, record_lines}
use Rattle.script_run.specs.Trial.{AreLinesTaken, IsLost}
use Rattle.script_run.proofs.WorkLemmas.{work_none, work_then}

-- one name more
pub lines_more : (m : Map) (n : ℕ) → record_lines m (n + 1) ≡ record_lines m n ++ row_lines n (get m n)
lines_more m n =
    let rows = rows_from m 0 n in
    let row = row_of (0 + n) (get m (0 + n)) in
    ap (record_lines m) (add-one n)
    ∙ ap (map reply_text) (map-append row_reply rows row)
    ∙ map-append reply_text (map row_reply rows) (map row_reply row)
    ∙ ap (λ (j : ℕ). record_lines m n ++ row_lines j (get m j)) (zero-add n)

module _ {S : Type 0} (k : Keeping S) (limits : Limits) (state : State) where
  -- no record yet
  pub taken_none : (sum : RecordSum) (store : S) (h : History) (t : Told) → k.holds limits store t h state
      → AreLinesTaken k limits state [] sum store h sum store t t
  taken_none sum store h t holds = record {
    leaves = work_none k (λ x. k.stands limits x state.map) store h t (k.each limits store t h state holds);
    holds = holds;
    taking = λ seen has. subst (HasTaken sum) (sym (append-nil seen)) has;
  }

  -- a name with a record, and one without
  pub taken_one : (n : ℕ) (value : List ℕ) (sum later : RecordSum) (before then : S) (h : History) (old new : Told)
      → LooksUpFor k limits state n before h (Ok (Some value)) then old new
      → ((seen : List (List ℕ)) → HasTaken sum seen → HasTaken later (seen ++ reply_text (reply.Row n value) ∷ []))
      → AreLinesTaken k limits state (row_lines n (get state.map n)) sum before h later then old new
  taken_one n value sum later before then h old new w takes = record {
    leaves = w.leaves;
    holds = w.ends.0;
    taking = λ seen has.
        subst (λ (found : Option (List ℕ)). HasTaken later (seen ++ row_lines n found)) w.ends.1 (takes seen has);
  }

  pub taken_absent : (n : ℕ) (sum : RecordSum) (before then : S) (h : History) (old new : Told)
      → LooksUpFor k limits state n before h (Ok None) then old new
      → AreLinesTaken k limits state (row_lines n (get state.map n)) sum before h sum then old new
  taken_absent n sum before then h old new w = record {
    leaves = w.leaves;
    holds = w.ends.0;
    taking = λ seen has.
        subst (λ (found : Option (List ℕ)). HasTaken sum (seen ++ row_lines n found)) w.ends.1
        (subst (HasTaken sum) (sym (append-nil seen)) has);
  }

  pub lost_one : (n : ℕ) (before then : S) (h : History) (old new : Told) (fault : Fault)
      → LooksUpFor k limits state n before h (Err fault) then old new → IsLost k limits state before h then old new
  lost_one n before then h old new fault w = record { leaves = w.leaves; stays = λ quiet. (w.ends quiet).0 }

  module _ (lines : List (List ℕ)) (sum mid_sum : RecordSum) (before mid then : S) (h : History)
      (old between new : Told) (first : AreLinesTaken k limits state lines sum before h mid_sum mid old between) where
    -- then more names
    pub taken_then : (more : List (List ℕ)) (later : RecordSum)
        → AreLinesTaken k limits state more mid_sum mid (adds_all first.leaves.added h) later then between new
        → AreLinesTaken k limits state (lines ++ more) sum before h later then old new
    taken_then more later next = record {
      leaves = work_then k (λ x. k.stands limits x state.map) before mid then h old between new true first.leaves next.leaves;
      holds = subst (λ (g : History). k.holds limits then new g state)
          (twice_added next.leaves.added first.leaves.added h) next.holds;
      taking = λ seen has.
          subst (HasTaken later) (append_assoc seen lines more) (next.taking (seen ++ lines) (first.taking seen has));
    }

    -- or a fault in one of them
    pub lost_then : old.write_faults ≤ between.write_faults
        → IsLost k limits state mid (adds_all first.leaves.added h) then between new
        → IsLost k limits state before h then old new
    lost_then le next = record {
      leaves = work_then k (λ x. k.stands limits x state.map) before mid then h old between new false first.leaves next.leaves;
      stays = λ quiet. subst (λ (g : History). k.holds limits then new g state)
          (twice_added next.leaves.added first.leaves.added h) (next.stays (unrisen_later old between new le quiet));
    }
