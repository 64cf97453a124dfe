-- What goes along with the parts of a run, over one part after another.
use Rattle.std.proofs.Common.{◌≡◌, ◌≤◌, ◌+◌, ℕ, true, false, Result, Ok, Err, is_ok, refl, arith}
use Rattle.std.specs.Prelude.{IsErrAnd, IsErrOf, max}
use Rattle.std.proofs.lemmas.Result.{on_ok_weaker}
use Rattle.chip_trait.specs.Told.{Told, Counts, Rose}
use Rattle.store_trait.specs.declared.fault.Fault.{Fault}
use Rattle.store_trait.specs.declared.fault.Fault.TheVariants.{Spent}
use Rattle.store_trait.specs.Onward.{Onward, Further, Still}
use Rattle.store_trait.specs.Keeping.{Keeping, LeavesTidy, Learns, FOUND_NUMBER, Draws}
use Rattle.store_trait.proofs.TidyLemmas.{tidy_same, tidy_still, tidy_then}
use Rattle.store_trait.proofs.OnwardLemmas.{onward_none, onward_then, onward_counts, further_onward, further_then}
use Rattle.script_run.specs.declared.fault.Stop.{Stop}
use Rattle.script_run.specs.declared.fault.Stop.TheVariants as stop
use Rattle.script_run.specs.Goes.{Along, LearnsAlong}
use Rattle.script_run.proofs.CauseLemmas.{causes_earlier}

-- what goes along with a part that didn't stop
abbrev pub SoFar : {S : Type 0} → Keeping S → ℕ → S → Told → S → Told → Type 0
SoFar k n before old then new = Along k {T = Unit {0}} Onward n before old (Ok tt) then new

module _ {S : Type 0} {k : Keeping S} where
  -- nothing was done
  pub along_none : {n : ℕ} {store : S} {t : Told} → Along k {T = Unit {0}} Onward n store t (Ok tt) store t
  along_none {n} {store} {t} = record { tidy = tidy_same k store t t true refl; draws = record { most = omega arith; spent = λ is. cc }; suited = λ suits. suits; learns = λ entry knows. knows; beside = onward_none t; cause = tt; never = λ is. cc }

  -- the store did its work
  pub along_work : {n : ℕ} {before then : S} {old new : Told} → k.counter then ≤ max (k.counter before) FOUND_NUMBER + n → (k.suits before → k.suits then) → Counts old new
      → LeavesTidy k before then old new true → LearnsAlong k {T = Unit {0}} before old (Ok tt) then new
      → Along k {T = Unit {0}} Onward n before old (Ok tt) then new
  along_work {n} {before} {then} {old} {new} most suited counts tidy learns =
      record { tidy = tidy; draws = record { most = most; spent = λ is. cc }; suited = suited; learns = learns; beside = onward_counts old new counts; cause = tt; never = λ is. cc }

  -- or it failed
  pub along_fault : {X : Type 0} {n : ℕ} {before then : S} {old new : Told} {fault : Fault} (result : Result (Unit {0}) Stop) → IsErrAnd result (λ s. s ≡ stop.Store fault) → Draws k n before (IsErrOf {T = X} (Err fault) Spent) then
      → Counts old new → k.cause fault old new → LeavesTidy k before then old new false → Learns k {T = X} before old (Err fault) then new
      → Along k Onward n before old result then new
  along_fault (Ok u) is draws counts cause tidy learns = absurd is
  along_fault {X} {n} {before} {then} {old} {new} {fault} (Err s) is draws counts cause tidy learns =
      rw is (record { tidy = tidy; draws = record { most = draws.most; spent = λ e. draws.spent cc }; suited = tt; learns = learns; beside = onward_counts old new counts; cause = cause; never = λ e. cc })

  -- then its reply was said
  pub along_said : {n m : ℕ} {before then : S} {old mid new : Told} → Along k {T = Unit {0}} Onward n before old (Ok tt) then mid → Onward mid new → Still mid new → n ≤ m
      → Along k {T = Unit {0}} Onward m before old (Ok tt) then new
  along_said {n} {m} {before} {then} {old} {mid} {new} first on still le = record {
    tidy = tidy_then k before then then old mid new true first.tidy (tidy_still k then mid new true still);
    draws = record { most = omega (arith, first.draws.most, le); spent = λ is. cc };
    suited = first.suited;
    learns = λ entry knows. k.known_still entry then mid new still (first.learns entry knows);
    beside = onward_then old mid new first.beside on;
    cause = tt;
    never = λ is. cc;
  }

  -- or it couldn't be
  pub along_unsaid : {n m : ℕ} {before then : S} {old mid new : Told} → Along k {T = Unit {0}} Onward n before old (Ok tt) then mid → Onward mid new → Rose mid.beside.say_faults new.beside.say_faults → Still mid new → n ≤ m
      → Along k {T = Unit {0}} Onward m before old (Err stop.Output) then new
  along_unsaid {n} {m} {before} {then} {old} {mid} {new} first on rose still le = record {
    tidy = tidy_then k before then then old mid new false first.tidy (tidy_still k then mid new false still);
    draws = record { most = omega (arith, first.draws.most, le); spent = λ is. cc };
    suited = tt;
    learns = λ entry knows. tt;
    beside = onward_then old mid new first.beside on;
    cause = omega (arith, first.beside.says, rose);
    never = λ is. cc;
  }

  -- more numbers may be drawn
  pub along_more : {T : Type 0} {R : Told → Told → Type 0} {n m : ℕ} {before then : S} {old new : Told} {result : Result T Stop} → Along k R n before old result then new → n ≤ m → Along k R m before old result then new
  along_more first le =
      record { tidy = first.tidy; draws = record { most = omega (arith, first.draws.most, le); spent = λ is. let low = first.draws.spent is in omega (arith, low, le) }; suited = first.suited; learns = first.learns; beside = first.beside; cause = first.cause; never = first.never }

  -- what a `?` hands on
  pub along_stop : {T U : Type 0} {R : Told → Told → Type 0} {n : ℕ} {before then : S} {old new : Told} {s : Stop} (result : Result U Stop) → IsErrAnd result (λ e. e ≡ s) → Along k {T = T} R n before old (Err s) then new → Along k R n before old result then new
  along_stop (Ok u) is along = absurd is
  along_stop (Err e) is along = rw is (record { tidy = along.tidy; draws = record { most = along.draws.most; spent = λ f. along.draws.spent cc }; suited = tt; learns = along.learns; beside = along.beside; cause = along.cause; never = λ f. along.never cc })

  -- one part after another
  pub along_then : {T : Type 0} {n m : ℕ} {before between then : S} {old mid new : Told} {result : Result T Stop} → Along k {T = Unit {0}} Onward n before old (Ok tt) between mid → Along k Onward m between mid result then new → Along k Onward (n + m) before old result then new
  along_then {T} {n} {m} {before} {between} {then} {old} {mid} {new} {result} first next = record {
    tidy = tidy_then k before between then old mid new (is_ok result) first.tidy next.tidy;
    draws = record { most = omega (arith, first.draws.most, next.draws.most); spent = λ is. let low = next.draws.spent is in omega (arith, first.draws.most, low) };
    suited = on_ok_weaker result (λ next_suited suits. next_suited (first.suited suits)) next.suited;
    learns = λ entry knows. next.learns entry (first.learns entry knows);
    beside = onward_then old mid new first.beside next.beside;
    cause = causes_earlier k old mid new result (further_onward old mid first.beside) next.cause;
    never = next.never;
  }

  -- behind a read of the script
  pub along_later : {T : Type 0} {n : ℕ} {before then : S} {old mid new : Told} {result : Result T Stop} → Further old mid → Still old mid → Along k Onward n before mid result then new → Along k Further n before old result then new
  along_later {T} {n} {before} {then} {old} {mid} {new} {result} read still along = record {
    tidy = tidy_then k before before then old mid new (is_ok result) (tidy_still k before old mid true still) along.tidy;
    draws = along.draws;
    suited = along.suited;
    learns = λ entry knows. along.learns entry (k.known_still entry before old mid still knows);
    beside = further_then old mid new read (further_onward mid new along.beside);
    cause = causes_earlier k old mid new result read along.cause;
    never = along.never;
  }

  -- whatever it answers
  pub along_ok : {T U : Type 0} {R : Told → Told → Type 0} {n : ℕ} {before then : S} {old new : Told} {u : U} → (t : T) → Along k R n before old (Ok u) then new → Along k R n before old (Ok t) then new
  along_ok t along = record { tidy = along.tidy; draws = record { most = along.draws.most; spent = λ is. cc }; suited = along.suited; learns = along.learns; beside = along.beside; cause = tt; never = λ is. cc }

  -- or the script couldn't be read
  pub along_unread : {T : Type 0} (n : ℕ) (store : S) (old new : Told) → Further old new → new.history ≡ old.history → Rose old.beside.script_faults new.beside.script_faults → Along k {T = T} Further n store old (Err stop.Script) store new
  along_unread n store old new further same rose = record { tidy = tidy_same k store old new false same; draws = record { most = omega arith; spent = λ is. cc }; suited = tt; learns = λ entry knows. tt; beside = further; cause = rose; never = λ is. cc }
