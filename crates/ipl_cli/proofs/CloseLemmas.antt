-- A run behind which the chip is closed.
use Rattle.std.proofs.Common.{◌≡◌, ◌≤◌, ◌+◌, ◌++◌, ℕ, Bool, true, Result, Ok, Err, OnOk, is_ok, refl, sym, ◌∙◌, ap, subst, arith}
use Rattle.std.specs.Prelude.{IsErrOf, max}
use Rattle.std.specs.Option.{option_map}
use Rattle.std.proofs.lemmas.Bool.{true≢false}
use Rattle.std.proofs.lemmas.Result.{on_ok_weaker}
use Rattle.chip_trait.specs.Story.{Story}
use Rattle.chip_trait.specs.Told.{Told, Beside, adds_all}
use Rattle.chip_trait.proofs.HistoryLemmas.{history_then}
use Rattle.ipl_model.specs.Grammar.{commands_of}
use Rattle.ipl_model.specs.Run.{after_all}
use Rattle.store_trait.specs.declared.fault.Fault.{Fault}
use Rattle.store_trait.specs.declared.fault.Fault.TheVariants as fault
use Rattle.store_trait.specs.Behind.{WorksBehind}
use Rattle.store_trait.specs.Keeping.{SCRIPT_DRAWS, FOUND_NUMBER, Draws, LeavesTidy}
use Rattle.store_trait.specs.Onward.{Further}
use Rattle.store_trait.proofs.DrawLemmas.{numbers_last}
use Rattle.script_run.specs.declared.fault.Stop.{Stop}
use Rattle.script_run.specs.declared.fault.Stop.TheVariants as stop
use Rattle.script_run.specs.Behind.{stop_of}
use Rattle.script_run.specs.Goes.{LearnsAlong, CompletesOver, EndsScript, ReadsAll, ReadsTooMany, RunsScript}
use Rattle.script_run.proofs.BehindLemmas.{runs_behind, tidy_behind, cause_behind, learns_behind, completes_behind, further_both}
use Rattle.script_run.proofs.CompleteLemmas.{completes_more}
use Rattle.script_store.specs.declared.store.ScriptStore.{ScriptStore}
use Rattle.script_store.specs.Closes.{MarksRecalled, MarksSince, ClosesAtEnd, CountsClean, CountsMarked}
use Rattle.ipl_meaning.specs.Marks.{IsMarked}
use Rattle.unit_io.specs.Reads.{OfContents}
use Rattle.store_laws.specs.Keeps.{KnownPages, all_pages}
use Rattle.script_store.specs.Keeps.{KeepsScript, script_keeping, next_number}
use Rattle.ipl_cli.specs.Top.{IsTooLong}
use Rattle.ipl_cli.specs.Runs.{EndsClosed, MarksBehind, CountsBehind, ClosesScript, RunsClosing, RunsOver, ending_of}

-- ---- the last two events

-- they are the last of more, too
pub closed_since : (first : Story) (old mid new : Told) → mid.history ≡ option_map (adds_all first) old.history
    → EndsClosed mid new → EndsClosed old new
closed_since first old mid new before closed = record {
  added = closed.added ++ first;
  does = record {
    place = closed.does.place;
    number = closed.does.number;
    bytes = closed.does.bytes;
    mark = closed.does.mark;
    spelled = closed.does.spelled;
    kind = closed.does.kind;
    before = closed.does.before ++ first;
    events = ap (λ (events : Story). events ++ first) closed.does.events;
  };
  history = closed.history ∙ ap (option_map (adds_all closed.added)) before
      ∙ history_then closed.added first old.history;
}

-- ---- a script

-- a script that is told has as many bytes as were read of it
pub too_long : (old new : Told) → ReadsTooMany old new → IsTooLong old new
too_long old new many = record { grew = many.grew; told = λ source left. (many.read source left).1 }

module _ (before then : ScriptStore) (old new : Told) (closes : Bool) where
  -- it was run, and nothing else done
  pub ran_alone : (result : Result (Unit {0}) Stop) → next_number before ≤ FOUND_NUMBER
      → ((known : KnownPages) → RunsScript (script_keeping old.places known) before old result then new)
      → LeavesTidy (script_keeping old.places all_pages) before then old new (is_ok result)
      → Draws (script_keeping old.places all_pages) SCRIPT_DRAWS before (IsErrOf result (stop.Store fault.Spent)) then
      → ((known : KnownPages) → CompletesOver (script_keeping old.places known) SCRIPT_DRAWS before old result then new)
      → LearnsAlong (script_keeping old.places all_pages) before old result then new
      → Further old new → EndsScript (script_keeping old.places all_pages) old result new
      → OnOk result (closes ≡ true → ClosesScript before old then new)
      → RunsClosing closes result before old then new
  ran_alone result low runs tidy draws completes learns further ends closed = record {
    last = on_ok_weaker result (λ replied is. replied) ends.last;
    run = record {
      runs = runs;
      tidy = tidy;
      completes = λ known limits keeps. completes_more (completes known limits keeps) (omega arith);
      cause = ends.cause;
      learns = learns;
      unspent = numbers_last draws low;
      long = λ is. too_long old new (ends.long is);
      further = further;
      read = ends.all;
    };
    closed = closed;
  }

-- so it ends
pub runs_over : (closes : Bool) (result : Result (Unit {0}) Stop) (before then : ScriptStore) (old new : Told)
    → RunsClosing closes result before old then new → RunsOver (ending_of result) before old then new
runs_over closes result before then old new r = record { result = result; ending_is = refl; run = r.run }

-- ---- and the chip closed behind it

never_long : (closed : Result (Unit {0}) Fault) → IsErrOf (stop_of closed) stop.TooLong → ⊥
never_long (Ok v) is = cc
never_long (Err fault) is = cc

spent_so : (closed : Result (Unit {0}) Fault) → IsErrOf (stop_of closed) (stop.Store fault.Spent) → IsErrOf closed fault.Spent
spent_so (Ok v) is = absurd cc
spent_so (Err e) is = cc

-- what is so where it is closed, is so where it doesn't stop
on_closed : {A B : Type 0} (closed : Result (Unit {0}) Fault) → (A → B) → OnOk closed A → OnOk (stop_of closed) B
on_closed (Ok v) f a = f a
on_closed (Err fault) f a = tt

module _ (before mid then : ScriptStore) (old between new : Told) (closes : Bool) (closed : Result (Unit {0}) Fault)
    (further : Further old between) (did : (known : KnownPages) → ClosesAtEnd known mid between closed then new) where
  works : (known : KnownPages) → WorksBehind (script_keeping old.places known) mid between closed then new
  works known =
      subst (λ (n : ℕ). WorksBehind (script_keeping n known) mid between closed then new) further.places (did known).works

  -- numbers last for both
  both_last : next_number before ≤ FOUND_NUMBER → next_number mid ≤ max (next_number before) FOUND_NUMBER + SCRIPT_DRAWS
      → IsErrOf closed fault.Spent → ⊥
  both_last low drawn is = let past = (works all_pages).draws.spent is in omega (arith, past, low, drawn)

  -- what was erased before the script is marked too
  marks_behind : ((known : KnownPages) → RunsScript (script_keeping old.places known) before old (Ok tt) mid between)
      → ((known : KnownPages) → MarksRecalled known mid between new) → MarksBehind before old new
  marks_behind runs marks known script left calm entry h at recalls limits state k is keeps =
      let ended = runs known limits state k keeps script left in
      let last = after_all limits state (commands_of script) in
      let l = adds_all ended.leaves.added k in
      subst (λ (n : ℕ). MarksSince n h new) further.places
      (marks known entry h at (ended.leaves.recalls refl calm entry recalls) limits last l
      (ended.leaves.history ∙ ap (option_map (adds_all ended.leaves.added)) is)
      (subst (λ (n : ℕ). KeepsScript n known limits mid between l last) (sym further.places) ended.holds))

  -- and what is marked then, the store counts as clean
  counts_behind : ((known : KnownPages) → RunsScript (script_keeping old.places known) before old (Ok tt) mid between)
      → ((known : KnownPages) → CountsMarked known mid between then new) → CountsBehind before old then new
  counts_behind runs counted known script left limits state k keeps =
      let ended = runs known limits state k keeps script left in
      let last = after_all limits state (commands_of script) in
      let l = adds_all ended.leaves.added k in
      subst (λ (n : ℕ). OfContents new (λ x. (p s : ℕ) → IsMarked n x p s → CountsClean then p s)) further.places
      (counted known limits last l
      (subst (λ (n : ℕ). KeepsScript n known limits mid between l last) (sym further.places) ended.holds))

  closes_script : (first : Story) → between.history ≡ option_map (adds_all first) old.history
      → ((known : KnownPages) → RunsScript (script_keeping old.places known) before old (Ok tt) mid between)
      → OnOk (stop_of closed) (closes ≡ true → ClosesScript before old then new)
  closes_script first history runs =
      by_end closed (did all_pages).last (λ known. (did known).marked) (λ known. (did known).counted)
    where
      by_end : (r : Result (Unit {0}) Fault) → OnOk r (EndsClosed between new)
          → ((known : KnownPages) → OnOk r (MarksRecalled known mid between new))
          → ((known : KnownPages) → OnOk r (CountsMarked known mid between then new))
          → OnOk (stop_of r) (closes ≡ true → ClosesScript before old then new)
      by_end (Ok v) last marks counted = λ is. record {
        ends = closed_since first old between new history last;
        marked = marks_behind runs marks;
        counted = counts_behind runs counted;
      }
      by_end (Err e) last marks counted = tt

  pub ran_closing : next_number before ≤ FOUND_NUMBER
      → ((known : KnownPages) → RunsScript (script_keeping old.places known) before old (Ok tt) mid between)
      → LeavesTidy (script_keeping old.places all_pages) before mid old between true
      → Draws (script_keeping old.places all_pages) SCRIPT_DRAWS before (IsErrOf {T = Unit {0}} (Ok tt) (stop.Store fault.Spent)) mid
      → ((known : KnownPages)
      → CompletesOver (script_keeping old.places known) {T = Unit {0}} SCRIPT_DRAWS before old (Ok tt) mid between)
      → LearnsAlong (script_keeping old.places all_pages) {T = Unit {0}} before old (Ok tt) mid between
      → ReadsAll old between → closes ≡ true → RunsClosing closes (stop_of closed) before old then new
  ran_closing low runs tidy draws completes learns read asked =
      let k = script_keeping old.places all_pages in record {
        run = record {
          runs = λ known. runs_behind (script_keeping old.places known) before mid then old between new closed further
              (works known) (runs known);
          tidy = tidy_behind k before mid then old between new closed further (works all_pages) tidy;
          completes = λ known. completes_behind (script_keeping old.places known) before mid then old between new closed
              further (works known) SCRIPT_DRAWS (completes known);
          cause = cause_behind k before mid then old between new closed further (works all_pages);
          learns = learns_behind k before mid then old between new closed further (works all_pages) learns;
          unspent = λ is. both_last low draws.most (spent_so closed is);
          long = λ is. absurd (never_long closed is);
          further = further_both k before mid then old between new closed further (works all_pages);
          read = on_closed closed
              (λ last source left. ap (λ (b : Beside). b.left) (works all_pages).counts.beside ∙ read source left)
              (did all_pages).last;
        };
        closed = closes_script tidy.added tidy.history runs;
        last = on_closed closed (λ ends is. absurd (true≢false (sym asked ∙ is))) (did all_pages).last;
      }
