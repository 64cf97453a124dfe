-- The lines of a listing: of a name, of a page, and of all pages.
use Rattle.std.proofs.Common.{◌≡◌, ◌≢◌, ◌<◌, ◌≤◌, ◌+◌, ◌-◌, ◌*◌, ◌/◌, ◌%◌, ℕ, zero, suc, List, [], ◌∷◌, ◌++◌, append_assoc, add-one, Option, Some, None, Result, Ok, Err, inl, inr, refl, sym, ◌∙◌, ap, ap₂, subst, arith}
use Rattle.std.specs.Prelude.{OnOk, OnErr, IfSome}
use Rattle.std.specs.Option.{option_map, option_or}
use Rattle.std.proofs.lemmas.List.Elements.{All-nil, All-cons, All-append, All-weaker}
use Rattle.chip_trait.specs.declared.event.Event.{Event}
use Rattle.chip_trait.specs.declared.event.Event.TheVariants.{Read, Program, Erase, Worn, Barrier, Said}
use Rattle.std.proofs.lemmas.List.{append-nil}
use Rattle.chip_trait.specs.Story.{Contents, after}
use Rattle.chip_trait.specs.Told.{Told, History, Appends, FailsToSay, Rose, SayCounts, adds, adds_all}
use Rattle.chip_trait.proofs.SaidLemmas.{pieces-append}
use Rattle.ipl_base.specs.declared.fault.ChipFault.{ChipFault}
use Rattle.ipl_base.specs.declared.fault.ChipFault.TheVariants.{ReadFault, Stopped, Damaged, Malformed, WornOut}
use Rattle.ipl_base.specs.declared.fault.ImageFault.TheVariants as image
use Rattle.restart.proofs.ReadingLemmas.{reads_say_nothing}
use Rattle.ipl_meaning.specs.Chart.{chart_of}
use Rattle.ipl_meaning.specs.Legible.{Legible, IsToldApart}
use Rattle.ipl_meaning.specs.Stands.{Stands}
use Rattle.unit_io.specs.Reads.{OfContents}
use Rattle.unit_io.specs.ReadsAt.{Anywhere, IsReadAt, ReadsAt}
use Rattle.unit_io.proofs.ReadsAtLemmas.{none_added, history_then}
use Rattle.store_trait.specs.Onward.{Further}
use Rattle.store_trait.proofs.OnwardLemmas.{onward_counts, onward_said, further_none, further_onward, further_then}
use Rattle.script_run.specs.Run.{IsSaidOr, SaysLines}
use Rattle.command_line.specs.declared.end.End.{End}
use Rattle.command_line.specs.declared.end.End.TheVariants.{Words, Chip, OutOfMemory, Script, Output, TooLong}
use Rattle.ipl_cli.specs.Ending.{Ending}
use Rattle.script_run.proofs.RunLemmas.{says_all, says_longer, says_behind}
use Rattle.ipl_base.specs.First.{first_below}
use Rattle.ipl_model.specs.Text.{reply_text}
use Rattle.ipl_model.specs.declared.reply.Reply.TheVariants as reply
use Rattle.ipl_meaning.specs.LaidOut.{layout_in}
use Rattle.record_reader.specs.declared.reader.Reader.{Reader}
use Rattle.record_reader.specs.Reading.{AnswersName, Reads, names_of, page_fault}
use Rattle.record_reader.proofs.PageLemmas.{page_is_sound, reads_still}
use Rattle.unit_io.specs.Faults.{TellsChipFault}
use Rattle.std.specs.Result.{IsErrAnd}
use Rattle.ipl_meaning.specs.Layout.{Laid}
use Rattle.image_check.specs.Checked.{IsReadingCause, fault_of_page}
use Rattle.std.proofs.lemmas.Bool.{cases_Bool}
use Rattle.ipl_cli.specs.Lists.{AllLines, IsFoundFault, ListedCause, ListsLooked, SaysAll, SaysAmidReads, SaysFrom, SaysName, SaysPart, SaysRange, first_fault_of, line_in, line_of, lines_from, passed_over}

-- ---- reads and sayings, one after another

pub amid_none : (t : Told) → SaysAmidReads [] t t
amid_none t = record {
  added = [];
  only = All-nil (IsSaidOr (IsReadAt Anywhere));
  says = refl;
  history = none_added t.history;
  settled = refl;
  contents = refl;
  further = further_none t;
}

pub amid_then : {first second : List (List ℕ)} (old mid new : Told) → SaysAmidReads first old mid → SaysAmidReads second mid new
    → SaysAmidReads (first ++ second) old new
amid_then old mid new before behind = record {
  added = behind.added ++ before.added;
  only = All-append (IsSaidOr (IsReadAt Anywhere)) behind.added before.added behind.only before.only;
  says = pieces-append behind.added before.added ∙ ap₂ (λ a b. a ++ b) before.says behind.says;
  history = behind.history ∙ ap (option_map (adds_all behind.added)) before.history
      ∙ history_then behind.added before.added old.history;
  settled = behind.settled ∙ before.settled;
  contents = behind.contents ∙ before.contents;
  further = further_then old mid new before.further behind.further;
}

read_only : (e : Event) → IsReadAt Anywhere e → IsSaidOr (IsReadAt Anywhere) e
read_only (Read p s) is = is
read_only (Program p s bytes) is = is
read_only (Erase p) is = is
read_only Barrier is = is
read_only (Worn q) is = is
read_only (Said piece) is = absurd is

pub amid_reads : (old new : Told) → ReadsAt Anywhere old new → SaysAmidReads [] old new
amid_reads old new reads = record {
  added = reads.added;
  only = All-weaker (IsReadAt Anywhere) (IsSaidOr (IsReadAt Anywhere)) read_only reads.added reads.each;
  says = reads_say_nothing reads.added reads.each;
  history = reads.history;
  settled = reads.settled;
  contents = reads.contents;
  further = further_onward old new (onward_counts old new reads.counts);
}

-- ---- a line

one_added : (piece : List ℕ) (o : Option History)
    → option_map (adds (Said piece)) o ≡ option_map (adds_all (Said piece ∷ [])) o
one_added piece None = refl
one_added piece (Some h) = refl

same_contents : (piece : List ℕ) (o : Option Contents) → option_map (after (Said piece)) o ≡ o
same_contents piece None = refl
same_contents piece (Some x) = refl

said_further : (old new : Told) → new.places ≡ old.places → SayCounts old new → Further old new
said_further old new places counts = further_onward old new (onward_said old new places counts)

pub amid_said : (piece : List ℕ) (old new : Told) → Appends (Said piece) old new → SayCounts old new
    → SaysAmidReads (piece ∷ []) old new
amid_said piece old new did counts = record {
  added = Said piece ∷ [];
  only = All-cons (IsSaidOr (IsReadAt Anywhere)) (Said piece) [] tt (All-nil (IsSaidOr (IsReadAt Anywhere)));
  says = refl;
  history = did.history ∙ one_added piece old.history;
  settled = did.settled;
  contents = did.contents ∙ same_contents piece old.contents;
  further = said_further old new did.places counts;
}

-- it couldn't be said
pub amid_unsaid : (piece : List ℕ) (old new : Told) → FailsToSay piece old new → SayCounts old new
    → SaysPart (piece ∷ []) old new
amid_unsaid piece old new did counts = elim did.history [
  | inl some ↦ (
    some.0 ∷ [],
    record {
      added = Said some.0 ∷ [];
      only = All-cons (IsSaidOr (IsReadAt Anywhere)) (Said some.0) [] tt (All-nil (IsSaidOr (IsReadAt Anywhere)));
      says = refl;
      history = some.2 ∙ one_added some.0 old.history;
      settled = did.settled;
      contents = did.contents;
      further = said_further old new did.places counts;
    },
    record { whole = []; rest = piece ∷ []; cut = some.0 ∷ []; lines_are = refl; said_is = refl; is_cut = some.1 },
  )
  | inr none ↦ (
    [],
    record {
      added = [];
      only = All-nil (IsSaidOr (IsReadAt Anywhere));
      says = refl;
      history = none ∙ none_added old.history;
      settled = did.settled;
      contents = did.contents;
      further = said_further old new did.places counts;
    },
    record { whole = []; rest = piece ∷ []; cut = []; lines_are = refl; said_is = refl; is_cut = tt },
  )
]

-- a line of a name, or a beginning of it
pub said_name : (n : ℕ) (value : List ℕ) (result : Result (Unit {0}) End) (old new : Told)
    → OnOk result (Appends (Said (reply_text (reply.Row n value))) old new)
    → OnErr result (FailsToSay (reply_text (reply.Row n value)) old new) → SayCounts old new → SaysName n (Some value) result old new
said_name n value (Ok u) old new did failed counts = amid_said (reply_text (reply.Row n value)) old new did counts
said_name n value (Err end) old new did failed counts = amid_unsaid (reply_text (reply.Row n value)) old new failed counts

pub unsaid_cause : (end : End) (old new : Told) → end ≡ Output → Rose old.beside.say_faults new.beside.say_faults
    → ListedCause end old new
unsaid_cause end old new is rose = subst (λ (e : End). ListedCause e old new) (sym is) rose

-- ---- the lines of names

-- those of one name more
pub one_name_more : (m : Legible) (a k : ℕ) → lines_from m a (k + 1) ≡ lines_from m a k ++ line_in m (a + k)
unfolding lines_from
one_name_more m a k = rw add-one refl

pub no_names : (m : Legible) (a : ℕ) → lines_from m a 0 ≡ []
unfolding lines_from
no_names m a = refl

-- names without a line add nothing
pub silent_names : (m : Legible) (a k j : ℕ) → ((i : ℕ) → i < j → line_in m (a + (k + i)) ≡ [])
    → lines_from m a (k + j) ≡ lines_from m a k
unfolding lines_from
silent_names m a k zero none = let same : k + zero ≡ k = omega arith in ap (lines_from m a) same
silent_names m a k (suc j) none =
    let more : k + suc j ≡ suc (k + j) = omega arith in
    ap (lines_from m a) more
    ∙ ap₂ (λ xs ys. xs ++ ys) (silent_names m a k j (λ i low. none i (omega (arith, low)))) (none j (omega arith))
    ∙ append-nil (lines_from m a k)

-- ranges that follow one another
pub names_then : (m : Legible) (a k j : ℕ) → lines_from m a (k + j) ≡ lines_from m a k ++ lines_from m (a + k) j
unfolding lines_from
names_then m a k zero =
    let same : k + zero ≡ k = omega arith in ap (lines_from m a) same ∙ sym (append-nil (lines_from m a k))
names_then m a k (suc j) =
    let more : k + suc j ≡ suc (k + j) = omega arith in
    let name : a + (k + j) ≡ a + k + j = omega arith in
    ap (lines_from m a) more
    ∙ ap₂ (λ xs ys. xs ++ ys) (names_then m a k j) (ap (line_in m) name)
    ∙ append_assoc (lines_from m a k) (lines_from m (a + k) j) (line_in m (a + k + j))

-- ---- a beginning of lines

-- all lines are a beginning of them and more
whole_part : (lines more said : List (List ℕ)) → said ≡ lines → SaysLines (lines ++ more) said
whole_part lines more said is =
    subst (λ (l : List (List ℕ)). SaysLines (lines ++ more) l) (sym is) (says_longer lines more lines (says_all lines))

-- ---- names of a page

module _ (m : Legible) (apart : IsToldApart m.pages) where
  -- a name was answered: its line is that of the value
  pub answered_line : (n : ℕ) (value : Option (List ℕ)) → AnswersName m n (Ok value) → line_of n value ≡ line_in m n
  answered_line n value answers = elim (apart (n / 960) (n / 64 % 15)) [
    | inl reads ↦ rw reads (ap (line_of n) (answers.reads reads))
    | inr rotten ↦ absurd (answers.rotten rotten)
  ]

-- ---- so far

-- nothing was said of no names
pub from_none : (a : ℕ) (t : Told) → SaysFrom AllLines a 0 t t
from_none a t = record { said = []; says = amid_none t; part = λ x told m stands apart. sym (no_names m a) }

-- one name more
pub from_name : (a k n : ℕ) (value : Option (List ℕ)) (old mid read new : Told) → n ≡ a + k → SaysFrom AllLines a k old mid
    → ReadsAt Anywhere mid read → OfContents mid (λ x. (m : Legible) → Stands mid.places (chart_of x) m → AnswersName m n (Ok value))
    → SaysName n value (Ok tt) read new → SaysFrom AllLines a (k + 1) old new
from_name a k n value old mid read new is before reads answers behind = record {
  said = before.said ++ line_of n value;
  says = subst (λ (l : List (List ℕ)). SaysAmidReads l old new)
      (ap (λ l. before.said ++ l) refl)
      (amid_then old mid new before.says (amid_then mid read new (amid_reads mid read reads) behind));
  part = λ x told m stands apart.
      ap₂ (λ xs ys. xs ++ ys) (before.part x told m stands apart)
      (answered_line m apart n value (answers x (before.says.contents ∙ told) m (standing x stands)) ∙ ap (line_in m) is)
      ∙ sym (one_name_more m a k);
}
  where
    standing : (x : Contents) {m : Legible} → Stands old.places (chart_of x) m → Stands mid.places (chart_of x) m
    standing x {m} stands = subst (λ (p : ℕ). Stands p (chart_of x) m) (sym before.says.further.places) stands

-- or its line was cut short
pub from_cut : (a k j n : ℕ) (value : Option (List ℕ)) (end : End) (old mid read new : Told) → n ≡ a + k → k < j → SaysFrom AllLines a k old mid
    → ReadsAt Anywhere mid read → OfContents mid (λ x. (m : Legible) → Stands mid.places (chart_of x) m → AnswersName m n (Ok value))
    → SaysName n value (Err end) read new → SaysFrom SaysLines a j old new
from_cut a k j n value end old mid read new is less before reads answers behind = record {
  said = before.said ++ behind.0;
  says = amid_then old mid new before.says (amid_then mid read new (amid_reads mid read reads) behind.1);
  part = λ x told m stands apart.
      let line = answered_line m apart n value (answers x (before.says.contents ∙ told) m (standing x stands)) ∙ ap (line_in m) is in
      let rest = lines_from m (a + (k + 1)) (j - (k + 1)) in
      let all : lines_from m a j ≡ lines_from m a k ++ (line_of n value ++ rest) = all_lines m line in
      subst (λ (l : List (List ℕ)). SaysLines l (before.said ++ behind.0)) (sym all)
      (subst (λ (l : List (List ℕ)). SaysLines (l ++ (line_of n value ++ rest)) (before.said ++ behind.0)) (before.part x told m stands apart)
      (says_behind before.said (line_of n value ++ rest) behind.0 (says_longer (line_of n value) rest behind.0 behind.2)));
}
  where
    standing : (x : Contents) {m : Legible} → Stands old.places (chart_of x) m → Stands mid.places (chart_of x) m
    standing x {m} stands = subst (λ (p : ℕ). Stands p (chart_of x) m) (sym before.says.further.places) stands

    all_lines : (m : Legible) → line_of n value ≡ line_in m (a + k)
        → lines_from m a j ≡ lines_from m a k ++ (line_of n value ++ lines_from m (a + (k + 1)) (j - (k + 1)))
    all_lines m line =
        let split : j ≡ (k + 1) + (j - (k + 1)) = omega (arith, less) in
        ap (lines_from m a) split ∙ names_then m a (k + 1) (j - (k + 1))
        ∙ ap (λ l. l ++ lines_from m (a + (k + 1)) (j - (k + 1))) (one_name_more m a k ∙ ap (λ l. lines_from m a k ++ l) (sym line))
        ∙ append_assoc (lines_from m a k) (line_of n value) (lines_from m (a + (k + 1)) (j - (k + 1)))

-- or a read failed: what was said is a beginning
pub from_stop : (a k j : ℕ) (old mid new : Told) → k ≤ j → SaysFrom AllLines a k old mid → ReadsAt Anywhere mid new
    → SaysFrom SaysLines a j old new
from_stop a k j old mid new less before reads = record {
  said = before.said;
  says = subst (λ (l : List (List ℕ)). SaysAmidReads l old new) (append-nil before.said)
      (amid_then old mid new before.says (amid_reads mid new reads));
  part = λ x told m stands apart.
      let split : j ≡ k + (j - k) = omega (arith, less) in
      subst (λ (l : List (List ℕ)). SaysLines l before.said)
      (sym (ap (lines_from m a) split ∙ names_then m a k (j - k)))
      (whole_part (lines_from m a k) (lines_from m (a + k) (j - k)) before.said (before.part x told m stands apart));
}

-- ---- page by page

pub rose_later : (before mid now : ℕ) → before ≤ mid → Rose mid now → Rose before now
rose_later before mid now less rose = omega (arith, less, rose)

pub cause_then : (old mid new : Told) (end : End) → Further old mid → ListedCause end mid new → ListedCause end old new
cause_then old mid new Words f c = absurd c
cause_then old mid new (Chip fault) f c = (c.0, rose_later old.read_faults mid.read_faults new.read_faults f.reads c.1)
cause_then old mid new OutOfMemory f c = absurd c
cause_then old mid new Script f c = absurd c
cause_then old mid new Output f c =
    rose_later old.beside.say_faults mid.beside.say_faults new.beside.say_faults f.says c
cause_then old mid new TooLong f c = absurd c

found_then : (old mid new : Told) (fault : ChipFault) → Further old mid → IsFoundFault fault mid new → IsFoundFault fault old new
found_then old mid new ReadFault f is = absurd (is.found refl)
found_then old mid new Stopped f is = absurd is.cause
found_then old mid new (Damaged p s stored computed) f is = record { cause = is.cause; found = is.found }
found_then old mid new (Malformed p s) f is = record { cause = tt; found = is.found }
found_then old mid new (WornOut n) f is = absurd is.cause

found_still : (old mid new : Told) (fault : ChipFault) → IsFoundFault fault old mid → IsFoundFault fault old new
found_still old mid new ReadFault is = absurd (is.found refl)
found_still old mid new Stopped is = absurd is.cause
found_still old mid new (Damaged p s stored computed) is = record { cause = is.cause; found = is.found }
found_still old mid new (Malformed p s) is = record { cause = tt; found = is.found }
found_still old mid new (WornOut n) is = absurd is.cause

-- what a page's lines do to what was said before, of names below it
pub from_page : (a k j : ℕ) (old mid new : Told) → SaysFrom AllLines a k old mid → SaysFrom AllLines (a + k) j mid new
    → SaysFrom AllLines a (k + j) old new
from_page a k j old mid new before behind = record {
  said = before.said ++ behind.said;
  says = amid_then old mid new before.says behind.says;
  part = λ x told m stands apart.
      ap₂ (λ xs ys. xs ++ ys) (before.part x told m stands apart)
      (behind.part x (before.says.contents ∙ told) m
      (subst (λ (p : ℕ). Stands p (chart_of x) m) (sym before.says.further.places) stands) apart)
      ∙ sym (names_then m a k j);
}

pub from_part : (a k j n : ℕ) (old mid new : Told) → k + j ≤ n → SaysFrom AllLines a k old mid
    → SaysFrom SaysLines (a + k) j mid new → SaysFrom SaysLines a n old new
from_part a k j n old mid new less before behind = record {
  said = before.said ++ behind.said;
  says = amid_then old mid new before.says behind.says;
  part = λ x told m stands apart.
      let mine = before.part x told m stands apart in
      let theirs = behind.part x (before.says.contents ∙ told) m
      (subst (λ (p : ℕ). Stands p (chart_of x) m) (sym before.says.further.places) stands) apart in
      let rest = lines_from m (a + (k + j)) (n - (k + j)) in
      let split : n ≡ (k + j) + (n - (k + j)) = omega (arith, less) in
      let all : lines_from m a n ≡ before.said ++ (lines_from m (a + k) j ++ rest) =
      ap (lines_from m a) split ∙ names_then m a (k + j) (n - (k + j))
      ∙ ap (λ l. l ++ rest) (names_then m a k j ∙ ap (λ l. l ++ lines_from m (a + k) j) (sym mine))
      ∙ append_assoc before.said (lines_from m (a + k) j) rest in
      subst (λ (l : List (List ℕ)). SaysLines l (before.said ++ behind.said)) (sym all)
      (says_behind before.said (lines_from m (a + k) j ++ rest) behind.said (says_longer (lines_from m (a + k) j) rest behind.said theirs));
}

-- ---- a page at fault

-- its names have no line
unread_name : (x : Contents) (places n : ℕ) (f : ChipFault) (m : Legible) → Laid places (chart_of x) (layout_in (chart_of x) places)
    → n / 960 < (layout_in (chart_of x) places).count → Stands places (chart_of x) m → page_fault x places (n / 64) ≡ Some f
    → line_in m n ≡ []
unread_name x places n f m laid low stands is = elim (cases_Bool (m.pages.reads (n / 960) (n / 64 % 15))) [
  | inl reads ↦
      let unit : n / 64 / 15 ≡ n / 960 = omega arith in
      let sound = page_is_sound x places (layout_in (chart_of x) places) laid m stands (n / 960) (n / 64 % 15) low (omega arith) reads in
      let none : page_fault x places (n / 64) ≡ None =
      ap (λ (u : ℕ). fault_of_page x (layout_in (chart_of x) places) u (n / 64 % 15)) unit ∙ sound in
      absurd (let both = sym is ∙ none in cc)
  | inr none ↦ rw none refl
]

unread_names : (x : Contents) (places p k j : ℕ) (f : ChipFault) (m : Legible) → Laid places (chart_of x) (layout_in (chart_of x) places)
    → p / 15 < (layout_in (chart_of x) places).count → Stands places (chart_of x) m → page_fault x places p ≡ Some f → k + j ≤ 64
    → lines_from m (p * 64) (k + j) ≡ lines_from m (p * 64) k
unread_names x places p k j f m laid low stands is few = silent_names m (p * 64) k j (λ i less.
    let page : (p * 64 + (k + i)) / 64 ≡ p = omega (arith, few, less) in
    let unit : (p * 64 + (k + i)) / 960 ≡ p / 15 = omega (arith, few, less) in
    unread_name x places (p * 64 + (k + i)) f m laid (omega (arith, low, unit)) stands (ap (page_fault x places) page ∙ is))

-- what the tables say of a chip that was looked over
laid_by : (told : Told) (reader : Reader) (x : Contents) → Reads told reader → told.contents ≡ Some x
    → Laid told.places (chart_of x) (layout_in (chart_of x) told.places)
laid_by told reader x r is = (r.mirrors x is).1.laid

low_by : (told : Told) (reader : Reader) (x : Contents) (p : ℕ) → Reads told reader → told.contents ≡ Some x → p * 64 < names_of reader
    → p / 15 < (layout_in (chart_of x) told.places).count
low_by told reader x p r is low = let units = (r.mirrors x is).1.directory.units in omega (arith, units, low)

-- a call that ends so
pub range_exit : (old new : Told) (fault : Contents → Option ChipFault) (a k : ℕ) (e : End) (r : Result (Option ChipFault) End)
    → IsErrAnd r (λ y. y ≡ e) → SaysRange fault a k (Err e) old new → SaysRange fault a k r old new
range_exit old new fault a k e (Ok v) exit says = absurd exit
range_exit old new fault a k e (Err y) exit says = subst (λ (f : End). SaysRange fault a k (Err f) old new) (sym exit) says

-- what was found of a chip is so after a line, or a part of it
pub reads_said : (old new : Told) (reader : Reader) (n : ℕ) (value : Option (List ℕ)) (result : Result (Unit {0}) End)
    → SaysName n value result old new → Reads old reader → Reads new reader
reads_said old new reader n value (Ok u) said r = reads_still old new reader said.further.places said.contents r
reads_said old new reader n value (Err end) said r = reads_still old new reader said.1.further.places said.1.contents r

-- where the chip was looked over before the first of the events
module _ (old new : Told) (reader : Reader) (r : Reads old reader) where
  -- what was said of some of its names is what was to be said of all
  pub from_fault : (p k : ℕ) (f : ChipFault) → p * 64 < names_of reader → k ≤ 64 → OfContents old (λ x. Some f ≡ page_fault x old.places p)
      → SaysFrom AllLines (p * 64) k old new → SaysFrom AllLines (p * 64) 64 old new
  from_fault p k f low few is l = record {
    said = l.said;
    says = l.says;
    part = λ x told m stands apart.
        let all : 64 ≡ k + (64 - k) = omega (arith, few) in
        l.part x told m stands apart
        ∙ sym (ap (lines_from m (p * 64)) all
        ∙ unread_names x old.places p k (64 - k) f m (laid_by old reader x r told) (low_by old reader x p r told low) stands
        (sym (is x told)) (omega (arith, few)));
  }

  -- ---- a name

  pub name_said : (n : ℕ) (value : Option (List ℕ)) (read : Told) → ReadsAt Anywhere old read
      → OfContents old (λ x. (m : Legible) → Stands old.places (chart_of x) m → AnswersName m n (Ok value))
      → OfContents old (λ x. TellsChipFault {T = Option (List ℕ)} (page_fault x old.places (n / 64)) (Ok value))
      → SaysName n value (Ok tt) read new → SaysRange (λ x. page_fault x old.places (n / 64)) n 1 (Ok None) old new
  name_said n value read reads answers tells said = (
    from_name n 0 n value old old read new (omega arith) (from_none n old) reads answers said,
    λ x told. sym (tells x told),
    tt,
  )

  pub name_cut : (n : ℕ) (value : Option (List ℕ)) (end : End) (read : Told) → ReadsAt Anywhere old read
      → OfContents old (λ x. (m : Legible) → Stands old.places (chart_of x) m → AnswersName m n (Ok value))
      → SaysName n value (Err end) read new → ListedCause end read new
      → SaysRange (λ x. page_fault x old.places (n / 64)) n 1 (Err end) old new
  name_cut n value end read reads answers said cause = (
    from_cut n 0 1 n value end old old read new (omega arith) (omega arith) (from_none n old) reads answers said,
    cause_then old read new end (further_onward old read (onward_counts old read reads.counts)) cause,
  )

  pub name_missed : (n : ℕ) → ReadsAt Anywhere old new → Rose old.read_faults new.read_faults
      → SaysRange (λ x. page_fault x old.places (n / 64)) n 1 (Err (Chip (image.Chip ReadFault))) old new
  name_missed n reads rose = (from_stop n 0 1 old old new (omega arith) (from_none n old) reads, (refl, rose))

  pub name_at_fault : (n : ℕ) (f : ChipFault) → n < names_of reader → ReadsAt Anywhere old new → IsReadingCause f old new → f ≢ ReadFault
      → OfContents old (λ x. TellsChipFault {T = Option (List ℕ)} (page_fault x old.places (n / 64)) (Err f))
      → SaysRange (λ x. page_fault x old.places (n / 64)) n 1 (Ok (Some f)) old new
  name_at_fault n f low reads cause other tells = (
    record {
      said = [];
      says = amid_reads old new reads;
      part = λ x told m stands apart.
          sym (one_name_more m n 0 ∙ ap₂ (λ xs ys. xs ++ ys) (no_names m n) (nothing x told m stands));
    },
    λ x told. sym (tells x told other),
    record { cause = cause; found = other },
  )
    where
      nothing : (x : Contents) → old.contents ≡ Some x → (m : Legible) → Stands old.places (chart_of x) m → line_in m (n + 0) ≡ []
      nothing x told m stands =
          let same : n + 0 ≡ n = omega arith in
          let units = (r.mirrors x told).1.directory.units in
          ap (line_in m) same
          ∙ unread_name x old.places n f m (laid_by old reader x r told) (omega (arith, units, low)) stands (tells x told other)

  pub name_faulted : (n : ℕ) (f : ChipFault) (result : Result (Option ChipFault) End) → n < names_of reader → ReadsAt Anywhere old new
      → IsReadingCause f old new → OfContents old (λ x. TellsChipFault {T = Option (List ℕ)} (page_fault x old.places (n / 64)) (Err f))
      → result ≡ passed_over f → SaysRange (λ x. page_fault x old.places (n / 64)) n 1 result old new
  name_faulted n f result low reads cause tells is =
      subst (λ (r : Result (Option ChipFault) End). SaysRange (λ x. page_fault x old.places (n / 64)) n 1 r old new) (sym is)
      (by_fault f cause tells)
    where
      by_fault : (e : ChipFault) → IsReadingCause e old new
          → OfContents old (λ x. TellsChipFault {T = Option (List ℕ)} (page_fault x old.places (n / 64)) (Err e))
          → SaysRange (λ x. page_fault x old.places (n / 64)) n 1 (passed_over e) old new
      by_fault ReadFault cause tells = name_missed n reads cause
      by_fault Stopped cause tells = name_at_fault n Stopped low reads cause (λ same. cc) tells
      by_fault (Damaged p s stored computed) cause tells = name_at_fault n (Damaged p s stored computed) low reads cause (λ same. cc) tells
      by_fault (Malformed p s) cause tells = name_at_fault n (Malformed p s) low reads cause (λ same. cc) tells
      by_fault (WornOut k) cause tells = name_at_fault n (WornOut k) low reads cause (λ same. cc) tells

-- ---- the names of a page, one after another

same_fault : (x : Contents) (old mid : Told) (p k : ℕ) → mid.places ≡ old.places → k < 64
    → page_fault x mid.places ((p * 64 + k) / 64) ≡ page_fault x old.places p
same_fault x old mid p k places low =
    let page : (p * 64 + k) / 64 ≡ p = omega (arith, low) in ap₂ (λ n q. page_fault x n q) places page

module _ (old mid new : Told) (p k : ℕ) (low : k < 64) (before : SaysFrom AllLines (p * 64) k old mid) where
  -- whatever is wrong with the page of the next name is wrong with this page
  answered : (first : Option ChipFault) → OfContents mid (λ x. first ≡ page_fault x mid.places ((p * 64 + k) / 64))
      → OfContents old (λ x. first ≡ page_fault x old.places p)
  answered first is x told = is x (before.says.contents ∙ told) ∙ same_fault x old mid p k before.says.further.places low

  pub next_name : SaysRange (λ x. page_fault x mid.places ((p * 64 + k) / 64)) (p * 64 + k) 1 (Ok None) mid new
      → SaysFrom AllLines (p * 64) (k + 1) old new
  next_name next = from_page (p * 64) k 1 old mid new before next.0

  pub next_sound : SaysRange (λ x. page_fault x mid.places ((p * 64 + k) / 64)) (p * 64 + k) 1 (Ok None) mid new
      → OfContents old (λ x. page_fault x old.places p ≡ None)
  next_sound next x told = sym (answered None next.1 x told)

  pub next_fault : (reader : Reader) (f : ChipFault) → Reads old reader → p * 64 < names_of reader
      → SaysRange (λ x. page_fault x mid.places ((p * 64 + k) / 64)) (p * 64 + k) 1 (Ok (Some f)) mid new
      → SaysRange (λ x. page_fault x old.places p) (p * 64) 64 (Ok (Some f)) old new
  next_fault reader f r within next = (
    from_fault old new reader r p (k + 1) f within (omega (arith, low)) (answered (Some f) next.1)
        (from_page (p * 64) k 1 old mid new before next.0),
    answered (Some f) next.1,
    found_then old mid new f before.says.further next.2,
  )

  pub next_cut : (end : End) → SaysRange (λ x. page_fault x mid.places ((p * 64 + k) / 64)) (p * 64 + k) 1 (Err end) mid new
      → SaysRange (λ x. page_fault x old.places p) (p * 64) 64 (Err end) old new
  next_cut end next = (
    from_part (p * 64) k 1 64 old mid new (omega (arith, low)) before next.0,
    cause_then old mid new end before.says.further next.1,
  )

-- ---- pages, one after another

pub found_either : (old mid new : Told) (first next : Option ChipFault) → Further old mid → IfSome first (λ f. IsFoundFault f old mid)
    → IfSome next (λ f. IsFoundFault f mid new) → IfSome (option_or first next) (λ f. IsFoundFault f old new)
found_either old mid new None None later one two = tt
found_either old mid new None (Some f) later one two = found_then old mid new f later two
found_either old mid new (Some f) next later one two = found_still old mid new f one

module _ (old mid new : Told) (p : ℕ) (before : SaysFrom AllLines 0 (p * 64) old mid) where
  from_here : {Part : List (List ℕ) → List (List ℕ) → Type 0} → SaysFrom Part (p * 64) 64 mid new → SaysFrom Part (0 + p * 64) 64 mid new
  from_here {Part} says = let zero : p * 64 ≡ 0 + p * 64 = omega arith in subst (λ (a : ℕ). SaysFrom Part a 64 mid new) zero says

  pub next_page : SaysFrom AllLines (p * 64) 64 mid new → SaysFrom AllLines 0 ((p + 1) * 64) old new
  next_page says =
      let more : p * 64 + 64 ≡ (p + 1) * 64 = omega arith in
      subst (λ (n : ℕ). SaysFrom AllLines 0 n old new) more
      (from_page 0 (p * 64) 64 old mid new before (from_here {Part = AllLines} says))

  -- the first page at fault
  pub first_so_far : (first next : Option ChipFault) → OfContents old (λ x. first ≡ first_below (page_fault x old.places) p)
      → OfContents mid (λ x. next ≡ page_fault x mid.places p)
      → OfContents old (λ x. option_or first next ≡ first_below (page_fault x old.places) (p + 1))
  first_so_far first next so_far is x told =
      let page : next ≡ page_fault x old.places p =
      is x (before.says.contents ∙ told) ∙ ap (λ (n : ℕ). page_fault x n p) before.says.further.places in
      rw add-one (ap₂ (λ a b. option_or a b) (so_far x told) page)

  pub page_cut : (fault : Contents → Option ChipFault) (names : ℕ) (end : End) → p * 64 + 64 ≤ names
      → SaysRange (λ x. page_fault x mid.places p) (p * 64) 64 (Err end) mid new → SaysRange fault 0 names (Err end) old new
  page_cut fault names end within next = (
    from_part 0 (p * 64) 64 names old mid new within before (from_here {Part = SaysLines} next.0),
    cause_then old mid new end before.says.further next.1,
  )

-- all pages were listed
pub all_pages : (old new : Told) (names p : ℕ) (first : Option ChipFault) → p ≡ names / 64 → p * 64 ≡ names
    → SaysFrom AllLines 0 (p * 64) old new → OfContents old (λ x. first ≡ first_below (page_fault x old.places) p)
    → IfSome first (λ f. IsFoundFault f old new)
    → SaysRange (λ x. first_below (page_fault x old.places) (names / 64)) 0 names (Ok first) old new
all_pages old new names p first is all says one found = (
  subst (λ (n : ℕ). SaysFrom AllLines 0 n old new) all says,
  λ x told. one x told ∙ ap (first_below (page_fault x old.places)) is,
  found,
)

-- ---- the last line

module _ (old mid new : Told) (names : ℕ) where
  pub cut_before : SaysFrom SaysLines 0 names old mid → SaysAll SaysLines names old mid
  cut_before l = record {
    said = l.said;
    says = l.says;
    part = λ x told m stands apart.
        says_longer (lines_from m 0 names) (reply_text reply.End ∷ []) l.said (l.part x told m stands apart);
  }

  pub end_said : SaysFrom AllLines 0 names old mid → Appends (Said (reply_text reply.End)) mid new → SayCounts mid new
      → SaysAll AllLines names old new
  end_said l did counts = record {
    said = l.said ++ reply_text reply.End ∷ [];
    says = amid_then old mid new l.says (amid_said (reply_text reply.End) mid new did counts);
    part = λ x told m stands apart. ap (λ (lines : List (List ℕ)). lines ++ reply_text reply.End ∷ []) (l.part x told m stands apart);
  }

  end_part : SaysFrom AllLines 0 names old mid → SaysPart (reply_text reply.End ∷ []) mid new → SaysAll SaysLines names old new
  end_part l part = record {
    said = l.said ++ part.0;
    says = amid_then old mid new l.says part.1;
    part = λ x told m stands apart.
        subst (λ (lines : List (List ℕ)). SaysLines (lines ++ reply_text reply.End ∷ []) (l.said ++ part.0))
        (l.part x told m stands apart) (says_behind l.said (reply_text reply.End ∷ []) part.0 part.2);
  }

  pub looked_cut : (end : End) (result : Ending) → IsErrAnd result (λ e. e ≡ end)
      → SaysRange (first_fault_of old.places names) 0 names (Err end) old mid → ListsLooked names result old mid
  looked_cut end (Ok u) exit says = absurd exit
  looked_cut end (Err e) exit says =
      subst (λ (f : End). ListsLooked names (Err f) old mid) (sym exit) (inl (cut_before says.0, says.1))

  pub end_unsaid : (end : End) (result : Ending) → IsErrAnd result (λ e. e ≡ end) → SaysFrom AllLines 0 names old mid
      → FailsToSay (reply_text reply.End) mid new → SayCounts mid new → ListedCause end mid new → ListsLooked names result old new
  end_unsaid end (Ok u) exit l did counts cause = absurd exit
  end_unsaid end (Err e) exit l did counts cause =
      subst (λ (f : End). ListsLooked names (Err f) old new) (sym exit)
      (inl (end_part l (amid_unsaid (reply_text reply.End) mid new did counts), cause_then old mid new end l.says.further cause))

  pub none_at_fault : (first : Option ChipFault) → first ≡ None → SaysRange (first_fault_of old.places names) 0 names (Ok first) old mid
      → Appends (Said (reply_text reply.End)) mid new → SayCounts mid new → ListsLooked names (Ok tt) old new
  none_at_fault first none says did counts = (end_said says.0 did counts, λ x told. sym none ∙ says.1 x told)

  pub one_at_fault : (first : Option ChipFault) (f : ChipFault) → first ≡ Some f
      → SaysRange (first_fault_of old.places names) 0 names (Ok first) old mid
      → Appends (Said (reply_text reply.End)) mid new → SayCounts mid new → ListsLooked names (Err (Chip (image.Chip f))) old new
  one_at_fault first f some says did counts = inr (record {
    fault = f;
    end_is = refl;
    lists = end_said says.0 did counts;
    first = λ x told. sym some ∙ says.1 x told;
    found = found_still old mid new f (subst (λ (o : Option ChipFault). IfSome o (λ e. IsFoundFault e old mid)) some says.2);
  })
