-- How a run goes on, in one part of its script after another.
use Rattle.std.proofs.Common.{◌≡◌, ℕ, ◌+◌, ◌-◌, ◌<◌, ◌≤◌, false, length, get_or, take, drop, arith, List, [], ◌∷◌, ◌++◌, Some, Result, Ok, Err, MatchResult, refl, sym, ◌∙◌, ap, subst, append_assoc}
use Rattle.std.specs.List.{fold, position}
use Rattle.std.specs.Option.{option_map}
use Rattle.std.proofs.lemmas.List.{take_more, take_rest, take-append-drop, drop_all}
use Rattle.std.proofs.Math.Seq.{take-add}
use Rattle.ipl_model.specs.State.{State, Limits}
use Rattle.ipl_model.specs.declared.command.Command.{Command}
use Rattle.ipl_model.specs.Run.{after_all}
use Rattle.ipl_model.specs.Grammar.{line_of, commands_in, commands_of, is_line_feed}
use Rattle.chip_trait.specs.Told.{History, Told, Beside, IsBeside, IsNext, adds_all}
use Rattle.chip_trait.proofs.HistoryLemmas.{same_history}
use Rattle.script_run.specs.declared.fault.Stop.{Stop}
use Rattle.script_run.specs.declared.fault.Stop.TheVariants as stop
use Rattle.store_trait.specs.Onward.{Onward, Still}
use Rattle.store_trait.specs.Keeping.{Keeping}
use Rattle.script_run.specs.Lines.{commands_from, kept}
use Rattle.script_run.specs.Run.{RunLeaves}
use Rattle.script_run.specs.Goes.{StaysAt, Answers, Goes, TakesBytes, Took, Stopped, Ended}
use Rattle.script_run.proofs.LineLemmas.{keeping_all, from_start}
use Rattle.script_run.proofs.FeedLemmas.{feed_in, plain_before, plain_all}
use Rattle.store_trait.proofs.OnwardLemmas.{unrisen_later}
use Rattle.script_run.proofs.ReadLemmas.{left_then}
use Rattle.script_run.proofs.EndLemmas.{between_none}
use Rattle.script_run.proofs.RunLemmas.{run_none, run_more, run_longer, run_weaker, run_later}

module _ {S : Type 0} (k : Keeping S) (limits : Limits) where
  -- what stays as counted from a later moment on stays as counted from an earlier one
  pub stays_later : (store : S) (old mid new : Told) (e : Stop) (h : History) (s : State) → old.write_faults ≤ mid.write_faults → StaysAt k limits store mid new e h s → StaysAt k limits store old new e h s
  stays_later store old mid new e h s le stays quiet = stays (unrisen_later old mid new le quiet)

  -- no byte more was taken
  pub goes_none : (state : State) (line : List ℕ) (store : S) (h : History) (t : Told) → k.holds limits store t h state → Goes k limits state line [] store h store line t t
  goes_none state line store h t holds =
      let leaves = run_none k limits state store h (k.holds limits store t) t (Ok tt) holds holds holds in
      record { done = []; goes_on = λ tail. refl; leaves = leaves; holds = leaves.ends }

  -- a byte that ends a line
  pub goes_line : (state : State) (line : List ℕ) (before then : S) (h : History) (old new : Told) → (leaves : RunLeaves k limits state (commands_in (line_of line)) before h (k.holds limits then new) then old new (Ok tt))
      → k.holds limits then new (adds_all leaves.added h) (after_all limits state (commands_in (line_of line))) → Goes k limits state line (10 ∷ []) before h then [] old new
  goes_line state line before then h old new leaves holds = record { done = commands_in (line_of line); goes_on = λ tail. refl; leaves = leaves; holds = holds }

  -- bytes that are kept
  goes_kept : (state : State) (line bytes : List ℕ) (store : S) (h : History) (t : Told) → ((i : ℕ) → i < length bytes → is_line_feed (get_or bytes i 0) ≡ false) → k.holds limits store t h state
      → Goes k limits state line bytes store h store (fold kept line bytes) t t
  goes_kept state line bytes store h t plain holds =
      let leaves = run_none k limits state store h (k.holds limits store t) t (Ok tt) holds holds holds in
      record { done = []; goes_on = λ tail. keeping_all line bytes tail plain; leaves = leaves; holds = leaves.ends }

  -- the line that a byte ends was answered, or it stopped in it
  pub line_takes : (line : List ℕ) (before then : S) (old new : Told) (result : Result (Unit {0}) Stop) (state : State) (h : History)
      → MatchResult result
      (λ _. (leaves : RunLeaves k limits state (commands_in (line_of line)) before h (k.holds limits then new) then old new (Ok tt)) × k.holds limits then new (adds_all leaves.added h) (after_all limits state (commands_in (line_of line))))
      (λ s. RunLeaves k limits state (commands_in (line_of line)) before h (StaysAt k limits then old new s) then old new (Err s))
      → MatchResult result
      (λ _. Goes k limits state line (10 ∷ []) before h then [] old new)
      (λ s. (tail : List ℕ) → RunLeaves k limits state (commands_from line ((10 ∷ []) ++ tail)) before h (StaysAt k limits then old new s) then old new (Err s))
  line_takes line before then old new (Ok u) state h answered = goes_line state line before then h old new answered.0 answered.1
  line_takes line before then old new (Err e) state h answered = λ tail. run_longer k limits state (commands_in (line_of line)) (commands_from [] tail) before then h (StaysAt k limits then old new e) old new e answered

  -- more bytes were taken
  pub goes_then : (state : State) (line a b : List ℕ) (before mid_store then : S) (h : History) (mid later : List ℕ) (old between new : Told)
      → Goes k limits state line a before h mid_store mid old between
      → ((s : State) (g : History) → k.holds limits mid_store between g s → Goes k limits s mid b mid_store g then later between new) → Goes k limits state line (a ++ b) before h then later old new
  goes_then state line a b before mid_store then h mid later old between new g next =
      let n = next (after_all limits state g.done) (adds_all g.leaves.added h) g.holds in
      let leaves = run_more k limits state g.done n.done before mid_store then h (k.holds limits mid_store between) (k.holds limits then new) old between new (Ok tt) g.leaves n.leaves in record {
        done = g.done ++ n.done;
        goes_on = λ tail.
            ap (commands_from line) (append_assoc a b tail) ∙ g.goes_on (b ++ tail) ∙ ap (λ (cs : List Command). g.done ++ cs) (n.goes_on tail)
            ∙ sym (append_assoc g.done n.done (commands_from later tail));
        leaves = leaves;
        holds = leaves.ends;
      }

  -- the bytes before the next line feed of a piece
  pub goes_before : (state : State) (line piece : List ℕ) (at n : ℕ) (before store : S) (h : History) (mid later : List ℕ) (old t : Told) → Some n ≡ position is_line_feed (take (length piece - at) (drop at piece))
      → later ≡ fold kept mid (take ((at + n) - at) (drop at piece)) → Goes k limits state line (take at piece) before h store mid old t → Goes k limits state line (take (at + n) piece) before h store later old t
  goes_before state line piece at n before store h mid later old t found is g =
      let bytes = take n (drop at piece) in
      let kept_is : later ≡ fold kept mid bytes = is ∙ ap (λ (m : ℕ). fold kept mid (take m (drop at piece))) (omega arith) in
      rw kept_is (subst (λ (l : List ℕ). Goes k limits state line l before h store (fold kept mid bytes) old t) (sym (take-add at n piece))
      (goes_then state line (take at piece) bytes before store store h mid (fold kept mid bytes) old t t g
      (λ s g' now. goes_kept s mid bytes store g' t (plain_before (drop at piece) n (feed_in piece at n found)) now)))

  -- the bytes behind its last line feed
  pub goes_behind : (state : State) (line piece : List ℕ) (at : ℕ) (before store : S) (h : History) (mid later : List ℕ) (old t : Told) → ((n : ℕ) → position is_line_feed (take (length piece - at) (drop at piece)) ≡ Some n → ⊥)
      → later ≡ fold kept mid (take (length piece - at) (drop at piece)) → Goes k limits state line (take at piece) before h store mid old t → Goes k limits state line piece before h store later old t
  goes_behind state line piece at before store h mid later old t none is g =
      let bytes = take (length piece - at) (drop at piece) in
      rw is (subst (λ (l : List ℕ). Goes k limits state line l before h store (fold kept mid bytes) old t) (ap (λ (l : List ℕ). take at piece ++ l) (take_rest piece at) ∙ take-append-drop at piece)
      (goes_then state line (take at piece) bytes before store store h mid (fold kept mid bytes) old t t g
      (λ s g' now. goes_kept s mid bytes store g' t (plain_all bytes none) now)))

  -- it stopped in what came after
  pub stops_then : (state : State) (line a rest : List ℕ) (before mid_store then : S) (h : History) (R : History → State → Type 0) (mid : List ℕ) (old between new : Told) (e : Stop) (g : Goes k limits state line a before h mid_store mid old between)
      → RunLeaves k limits (after_all limits state g.done) (commands_from mid rest) mid_store (adds_all g.leaves.added h) R then between new (Err e) → RunLeaves k limits state (commands_from line (a ++ rest)) before h R then old new (Err e)
  stops_then state line a rest before mid_store then h R mid old between new e g next =
      subst (λ (cs : List Command). RunLeaves k limits state cs before h R then old new (Err e)) (sym (g.goes_on rest))
      (run_more k limits state g.done (commands_from mid rest) before mid_store then h (k.holds limits mid_store between) R old between new (Err e) g.leaves next)

  -- in a byte of a piece
  pub stops_in_piece : (state : State) (line piece : List ℕ) (i : ℕ) (before mid_store then : S) (h : History) (R : History → State → Type 0) (mid : List ℕ) (old between new : Told) (e : Stop) → i < length piece
      → Goes k limits state line (take i piece) before h mid_store mid old between
      → ((s : State) (g : History) → k.holds limits mid_store between g s → (tail : List ℕ) → RunLeaves k limits s (commands_from mid ((get_or piece i 0 ∷ []) ++ tail)) mid_store g R then between new (Err e))
      → (tail : List ℕ) → RunLeaves k limits state (commands_from line (piece ++ tail)) before h R then old new (Err e)
  stops_in_piece state line piece i before mid_store then h R mid old between new e lt g next tail =
      subst (λ (bytes : List ℕ). RunLeaves k limits state (commands_from line bytes) before h R then old new (Err e))
      (sym (append_assoc (take i piece) (get_or piece i 0 ∷ drop (i + 1) piece) tail) ∙ ap (λ (l : List ℕ). l ++ tail)
      (sym (append_assoc (take i piece) (get_or piece i 0 ∷ []) (drop (i + 1) piece)) ∙ ap (λ (l : List ℕ). l ++ drop (i + 1) piece) (sym (take_more piece i 0 lt)) ∙ take-append-drop (i + 1) piece))
      (stops_then state line (take i piece) (get_or piece i 0 ∷ drop (i + 1) piece ++ tail) before mid_store then h R mid old between new e g
      (next (after_all limits state g.done) (adds_all g.leaves.added h) g.holds (drop (i + 1) piece ++ tail)))

  -- a read of the script changes nothing of what the store keeps
  pub holds_beside : (store : S) (old new : Told) (h : History) (state : State) → IsBeside old new → k.holds limits store old h state → k.holds limits store new h state
  holds_beside store old new h state chip holds =
      let still : Still old new = record { places = chip.places; settled = chip.settled; contents = chip.contents; pieces = []; history = chip.history ∙ same_history old.history } in
      k.still limits store old new h state still holds

  -- the next bytes of the script
  pub took : (state : State) (line source bytes buffer : List ℕ) (n : ℕ) (old mid new : Told) (before then : S) (h : History) (later : List ℕ) → IsBeside old mid
      → mid.beside ≡ record old.beside { left = option_map (λ l. drop n l) old.beside.left; script_bytes = mid.beside.script_bytes; script_faults = mid.beside.script_faults }
      → Onward mid new → old.beside.left ≡ Some source → IsNext source buffer n → bytes ≡ take n buffer
      → Goes k limits state line bytes before h then later mid new → Took k limits state line source before h n then later old new
  took state line source bytes buffer n old mid new before then h later chip read onward told next bytes_are goes =
      let leaves = run_later k limits state goes.done before then h (k.holds limits then new) old mid new (Ok tt) chip goes.leaves in
      let longer : Goes k limits state line bytes before h then later old new = record { done = goes.done; goes_on = goes.goes_on; leaves = leaves; holds = leaves.ends } in record {
        left_is = left_then old mid new n source read onward told;
        within = next.within;
        ends = next.ends;
        goes = subst (λ (l : List ℕ). Goes k limits state line l before h then later old new) (bytes_are ∙ next.bytes) longer;
      }

  pub stopped : (state : State) (line source bytes buffer : List ℕ) (n : ℕ) (R : History → State → Type 0) (old mid new : Told) (before then : S) (h : History) (e : Stop) → IsBeside old mid
      → mid.beside ≡ record old.beside { left = option_map (λ l. drop n l) old.beside.left; script_bytes = mid.beside.script_bytes; script_faults = mid.beside.script_faults }
      → Onward mid new → old.beside.left ≡ Some source → IsNext source buffer n → bytes ≡ take n buffer
      → ((tail : List ℕ) → RunLeaves k limits state (commands_from line (bytes ++ tail)) before h R then mid new (Err e)) → Stopped k limits state (commands_from line source) source before h R then old new e
  stopped state line source bytes buffer n R old mid new before then h e chip read onward told next bytes_are leaves = record {
    read = take n source;
    rest = drop n source;
    left_is = left_then old mid new n source read onward told;
    source_is = sym (take-append-drop n source);
    leaves = run_later k limits state (commands_from line source) before then h R old mid new (Err e) chip
        (subst (λ (l : List ℕ). RunLeaves k limits state (commands_from line l) before h R then mid new (Err e)) (ap (λ (l : List ℕ). l ++ drop n source) (bytes_are ∙ next.bytes) ∙ take-append-drop n source) (leaves (drop n source)));
  }

  -- the script failed
  pub stopped_at_once : (state : State) (line source : List ℕ) (R : History → State → Type 0) (old new : Told) (store : S) (h : History) → k.holds limits store old h state → R h state → IsBeside old new
      → new.beside ≡ record old.beside { script_faults = new.beside.script_faults } → old.beside.left ≡ Some source → Stopped k limits state (commands_from line source) source store h R store old new stop.Script
  stopped_at_once state line source R old new store h holds r chip is left = record {
    read = [];
    rest = source;
    left_is = ap (λ (d : Beside). d.left) is ∙ left;
    source_is = refl;
    leaves = run_later k limits state (commands_from line source) store store h R old new new (Err stop.Script) chip
        (run_longer k limits state [] (commands_from line source) store store h R new new stop.Script
        (run_none k limits state store h R new (Err stop.Script) (holds_beside store old new h state chip holds) r (between_none limits state [] (R h) r)));
  }

  -- a run of the script, from its start with these bytes as its source
  pub record Running (state : State) (source : List ℕ) (before : S) (h : History) (store : S) (line : List ℕ) (old t : Told) : Type 0 where
    pub read : List ℕ
    pub rest : List ℕ
    pub source_is : source ≡ read ++ rest
    pub left_is : t.beside.left ≡ Some rest
    pub goes : Goes k limits state [] read before h store line old t

  pub running_none : (state : State) (source : List ℕ) (store : S) (h : History) (t : Told) → k.holds limits store t h state → t.beside.left ≡ Some source → Running state source store h store [] t t
  running_none state source store h t holds left = record { read = []; rest = source; source_is = refl; left_is = left; goes = goes_none state [] store h t holds }

  -- the next bytes
  pub running_more : (state : State) (source : List ℕ) (before store then : S) (h : History) (line later : List ℕ) (old mid new : Told) (n : ℕ) → Running state source before h store line old mid
      → ((s : State) (g : History) → k.holds limits store mid g s → (rest : List ℕ) → mid.beside.left ≡ Some rest → Took k limits s line rest store g n then later mid new)
      → Running state source before h then later old new
  running_more state source before store then h line later old mid new n r next =
      let took_now = next (after_all limits state r.goes.done) (adds_all r.goes.leaves.added h) r.goes.holds r.rest r.left_is in record {
        read = r.read ++ take n r.rest;
        rest = drop n r.rest;
        source_is = r.source_is ∙ ap (λ (l : List ℕ). r.read ++ l) (sym (take-append-drop n r.rest)) ∙ sym (append_assoc r.read (take n r.rest) (drop n r.rest));
        left_is = took_now.left_is;
        goes = goes_then state [] r.read (take n r.rest) before store then h line later old mid new r.goes (λ s g holds. (next s g holds r.rest r.left_is).goes);
      }

  all_of : (state : State) (source : List ℕ) (before store : S) (h : History) (line : List ℕ) (old t : Told) (r : Running state source before h store line old t) → commands_from [] (r.read ++ r.rest) ≡ commands_of source
  all_of state source before store h line old t r = ap (commands_from []) (sym r.source_is) ∙ from_start source

  -- it stopped in the next bytes
  pub running_failed : (state : State) (source : List ℕ) (before store then : S) (h : History) (R : History → State → Type 0) (line : List ℕ) (old mid new : Told) (e : Stop) → Running state source before h store line old mid
      → ((s : State) (g : History) → k.holds limits store mid g s → (rest : List ℕ) → mid.beside.left ≡ Some rest → Stopped k limits s (commands_from line rest) rest store g R then mid new e)
      → Stopped k limits state (commands_of source) source before h R then old new e
  running_failed state source before store then h R line old mid new e r next =
      let n = next (after_all limits state r.goes.done) (adds_all r.goes.leaves.added h) r.goes.holds r.rest r.left_is in record {
        read = r.read ++ n.read;
        rest = n.rest;
        left_is = n.left_is;
        source_is = r.source_is ∙ ap (λ (l : List ℕ). r.read ++ l) n.source_is ∙ sym (append_assoc r.read n.read n.rest);
        leaves = subst (λ (cs : List Command). RunLeaves k limits state cs before h R then old new (Err e)) (all_of state source before store h line old mid r)
            (stops_then state [] r.read r.rest before store then h R line old mid new e r.goes n.leaves);
      }

  -- it stopped where it stood
  pub running_stopped : (state : State) (source : List ℕ) (before store : S) (h : History) (line : List ℕ) (old t : Told) → Running state source before h store line old t
      → Stopped k limits state (commands_of source) source before h (k.holds limits store t) store old t stop.TooLong
  running_stopped state source before store h line old t r =
      let now = after_all limits state r.goes.done in
      let g = adds_all r.goes.leaves.added h in record {
        read = r.read;
        rest = r.rest;
        left_is = r.left_is;
        source_is = r.source_is;
        leaves = subst (λ (cs : List Command). RunLeaves k limits state cs before h (k.holds limits store t) store old t (Err stop.TooLong)) (all_of state source before store h line old t r)
            (stops_then state [] r.read r.rest before store store h (k.holds limits store t) line old t t stop.TooLong r.goes
            (run_longer k limits now [] (commands_from line r.rest) store store g (k.holds limits store t) t t stop.TooLong
            (run_none k limits now store g (k.holds limits store t) t (Err stop.TooLong) r.goes.holds r.goes.holds (between_none limits now [] (k.holds limits store t g) r.goes.holds))));
      }

  -- it reached the end, and the last line was answered, or it stopped there
  pub running_ends : (state : State) (source : List ℕ) (before store then : S) (h : History) (line : List ℕ) (old mid new : Told) (result : Result (Unit {0}) Stop) → (r : Running state source before h store line old mid)
      → r.rest ≡ [] → Onward mid new → Answers k (commands_in (line_of line)) store mid result then new
      → MatchResult result (λ _. Ended k limits state source before h then old new) (λ s. Stopped k limits state (commands_of source) source before h (StaysAt k limits then mid new s) then old new s)
  running_ends state source before store then h line old mid new result r at_end onward answers = by_result result (answers limits now g r.goes.holds)
    where
      now : State
      now = after_all limits state r.goes.done

      g : History
      g = adds_all r.goes.leaves.added h

      all : r.goes.done ++ commands_in (line_of line) ≡ commands_of source
      all = ap (λ (cs : List Command). r.goes.done ++ cs) (ap (commands_from line) (sym at_end)) ∙ sym (r.goes.goes_on r.rest) ∙ all_of state source before store h line old mid r

      left_now : new.beside.left ≡ Some r.rest
      left_now = ap (λ (d : Beside). d.left) onward.keeps ∙ r.left_is

      by_result : (d : Result (Unit {0}) Stop)
          → MatchResult d (λ _. (leaves : RunLeaves k limits now (commands_in (line_of line)) store g (k.holds limits then new) then mid new (Ok tt)) × k.holds limits then new (adds_all leaves.added g) (after_all limits now (commands_in (line_of line))))
          (λ s. RunLeaves k limits now (commands_in (line_of line)) store g (StaysAt k limits then mid new s) then mid new (Err s))
          → MatchResult d (λ _. Ended k limits state source before h then old new) (λ s. Stopped k limits state (commands_of source) source before h (StaysAt k limits then mid new s) then old new s)
      by_result (Ok u) answered =
          let leaves = subst (λ (cs : List Command). RunLeaves k limits state cs before h (k.holds limits then new) then old new (Ok tt)) all
          (run_more k limits state r.goes.done (commands_in (line_of line)) before store then h (k.holds limits store mid) (k.holds limits then new) old mid new (Ok tt) r.goes.leaves answered.0) in
          record { left_is = left_now ∙ ap Some at_end; leaves = leaves; holds = leaves.ends }
      by_result (Err e) part = record {
        read = r.read;
        rest = r.rest;
        left_is = left_now;
        source_is = r.source_is;
        leaves = subst (λ (cs : List Command). RunLeaves k limits state cs before h (StaysAt k limits then mid new e) then old new (Err e)) all
            (run_more k limits state r.goes.done (commands_in (line_of line)) before store then h (k.holds limits store mid) (StaysAt k limits then mid new e) old mid new (Err e) r.goes.leaves part);
      }

  pub running_last : (state : State) (source : List ℕ) (before store mid_store then : S) (h : History) (line later : List ℕ) (old between mid new : Told) (n : ℕ) (result : Result (Unit {0}) Stop) → Running state source before h store line old between
      → ((s : State) (g : History) → k.holds limits store between g s → (rest : List ℕ) → between.beside.left ≡ Some rest → Took k limits s line rest store g n mid_store later between mid)
      → n ≡ 0 → Answers k (commands_in (line_of later)) mid_store mid result then new → Onward mid new
      → MatchResult result (λ _. Ended k limits state source before h then old new) (λ s. Stopped k limits state (commands_of source) source before h (StaysAt k limits then mid new s) then old new s)
  unfolding running_more
  running_last state source before store mid_store then h line later old between mid new n result r next zero answers onward =
      running_ends state source before mid_store then h later old mid new result (running_more state source before store mid_store h line later old between mid n r next)
      (ap (drop n) ((next (after_all limits state r.goes.done) (adds_all r.goes.leaves.added h) r.goes.holds r.rest r.left_is).ends zero) ∙ drop_all n [] (omega arith)) onward answers

  pub stops_weaker : (state : State) (cs : List Command) (source : List ℕ) (before then : S) (h : History) (Q R : History → State → Type 0) (old new : Told) (e : Stop) → ((g : History) (s : State) → Q g s → R g s)
      → Stopped k limits state cs source before h Q then old new e → Stopped k limits state cs source before h R then old new e
  stops_weaker state cs source before then h Q R old new e f s =
      record { read = s.read; rest = s.rest; left_is = s.left_is; source_is = s.source_is; leaves = run_weaker k limits state cs before then h Q R old new (Err e) f s.leaves }

  pub ends_later : (state : State) (source : List ℕ) (before then : S) (h : History) (result : Result (Unit {0}) Stop) (old mid new : Told) → old.write_faults ≤ mid.write_faults
      → MatchResult result (λ _. Ended k limits state source before h then old new) (λ s. Stopped k limits state (commands_of source) source before h (StaysAt k limits then mid new s) then old new s)
      → MatchResult result (λ _. Ended k limits state source before h then old new) (λ s. Stopped k limits state (commands_of source) source before h (StaysAt k limits then old new s) then old new s)
  ends_later state source before then h (Ok u) old mid new le ended = ended
  ends_later state source before then h (Err e) old mid new le s = stops_weaker state (commands_of source) source before then h (StaysAt k limits then mid new e) (StaysAt k limits then old new e) old new e (λ g n. stays_later then old mid new e g n le) s

-- the line that a line feed ends was answered, or it stopped in it
pub takes_line : {S : Type 0} (k : Keeping S) (line bytes later : List ℕ) (before then : S) (old new : Told) (result : Result (Unit {0}) Stop) → bytes ≡ line → later ≡ []
    → Answers k (commands_in (line_of bytes)) before old result then new → TakesBytes k (10 ∷ []) before line old result then later new
takes_line k line bytes later before then old new result same clear answers =
    subst (λ (l : List ℕ). TakesBytes k (10 ∷ []) before line old result then l new) (sym clear) (λ limits state h holds.
    line_takes k limits line before then old new result state h (subst (λ (l : List ℕ). Answers k (commands_in (line_of l)) before old result then new) same answers limits state h holds))
