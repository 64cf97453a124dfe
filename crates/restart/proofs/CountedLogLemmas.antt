-- What is known of the units' log sectors by a close mark, while they are read.
use Rattle.std.proofs.Common.{◌≡◌, ◌≢◌, inl, inr, ◌≤◌, ◌<◌, ◌+◌, ◌-◌, ◌*◌, ◌==◌, ◌&&◌, ℕ, Bool, true, false, nat_le, cond, List, [], length, get_or, set, Option, Some, None, refl, sym, ◌∙◌, ap, subst, arith, get_or-set_same, get_or-set_other, length-set}
use Rattle.std.proofs.lemmas.Bool.{false≢true, cases_eq, cases_lt, cases_Bool, eq-eqb, ne_eqb, eqb-true, lt-ltb, le-ltb, le-leb, leb-true, and_parts}
use Rattle.std.specs.Prelude.{◌↔◌}
use Rattle.std.proofs.lemmas.List.{get_or_past}
use Rattle.chip_trait.specs.Story.{Contents, blank}
use Rattle.ipl_format.specs.Sector.{Sector, sector_in}
use Rattle.ipl_format.proofs.SectorLemmas.{blank_says_nothing}
use Rattle.ipl_meaning.specs.Chart.{Chart, chart_of}
use Rattle.ipl_meaning.specs.Tables.{Places, OverflowLists}
use Rattle.ipl_meaning.specs.Chosen.{KeptHeader, Winner, current_at, status_at}
use Rattle.ipl_meaning.specs.LaidOut.{place_of}
use Rattle.ipl_meaning.specs.Opened.{KnowsLogs, IsOpenedLog}
use Rattle.ipl_meaning.specs.Live.{is_at, is_log_spot}
use Rattle.ipl_meaning.specs.Marked.{is_marked_by, last_close_mark}
use Rattle.txn_status.specs.Marks.{MarksRead, none_read, counting, marks_in}
use Rattle.unit_directory.specs.Directory.{noted_log, with_marked}
use Rattle.unit_io.specs.Kinds.{sector_named}
use Rattle.unit_io.specs.Found.{checked}
use Rattle.unit_io.specs.declared.reading.Found.{Found}
use Rattle.unit_io.specs.declared.reading.Found.TheVariants.{Erased, Bad, Sector as Checks}
use Rattle.restart.specs.Masked.{IsMasked, SamePlaces}
use Rattle.restart.specs.Counted.{SameHomes, StaysUnknown, NoneKnown, HasWholeLog, mark_for, first_known, AreUnitsMarked, KnowsRead, IsRightlyUnknown, IsReadLog, AreReadLogs, AreHomes, seen_log, does_check, is_erased}

-- ---- the same homes

pub homes_then : {a b c : Places} → SameHomes a b → SameHomes b c → SameHomes a c
homes_then one two = record {
  current = two.current ∙ one.current;
  in_use = two.in_use ∙ one.in_use;
  retired = two.retired ∙ one.retired;
  logs = two.logs ∙ one.logs;
  generations = two.generations ∙ one.generations;
}

pub homes_from : {a b : Places} → SamePlaces a b → SameHomes a b
homes_from same = record {
  current = same.current;
  in_use = same.in_use;
  retired = same.retired;
  logs = ap length same.written;
  generations = same.generations;
}

-- what is seen changes nothing else
pub seen_homes : (o : Option KeptHeader) (it : Places) (s : ℕ) (a b : Bool) → SameHomes it (seen_log o it s a b)
seen_homes None it s a b = record { current = refl; in_use = refl; retired = refl; logs = refl; generations = refl }
seen_homes (Some head) it s a b = elim (cases_Bool (head.kind == 1)) [
  | inl own ↦ rw own (record { current = refl; in_use = refl; retired = refl; logs = length-set it.written head.unit _; generations = refl })
  | inr other ↦ rw other (record { current = refl; in_use = refl; retired = refl; logs = refl; generations = refl })
]

pub seen_masks : (o : Option KeptHeader) (it : Places) (s : ℕ) (a b : Bool) → (seen_log o it s a b).masks ≡ it.masks
seen_masks None it s a b = refl
seen_masks (Some head) it s a b = elim (cases_Bool (head.kind == 1)) [
  | inl own ↦ rw own refl
  | inr other ↦ rw other refl
]

-- the masks have what was found, where they are the same
pub masked_alike : (heads : ℕ → Option KeptHeader) (current : ℕ → Option Winner) (found : ℕ → ℕ → ℕ) (k : ℕ) (it now : Places) (lists : OverflowLists)
    → now.masks ≡ it.masks → IsMasked heads current found k it lists → IsMasked heads current found k now lists
masked_alike heads current found k it now lists same so_far = record {
  home = λ u s winner is over least most.
      ap (λ (xs : List (List ℕ)). get_or (get_or xs u []) (s - 241) 0) same ∙ so_far.home u s winner is over least most;
  elsewhere = so_far.elsewhere;
}

-- ---- what was found

pub check_found : (found : Found) (bytes : List ℕ) (sector : Option Sector) → sector_named bytes (checked found) ≡ sector → does_check found ≡ true → sector ≢ None
check_found Erased bytes sector is off = cc
check_found Bad bytes sector is off = cc
check_found (Checks head used) bytes sector is on = λ none. let some = is ∙ none in cc

-- it checks, where the sector says something
pub unchecked_found : (found : Found) (bytes : List ℕ) (sector : Option Sector) → sector_named bytes (checked found) ≡ sector → does_check found ≡ false → sector ≡ None
unchecked_found Erased bytes sector is off = sym is
unchecked_found Bad bytes sector is off = sym is
unchecked_found (Checks head used) bytes sector is on = cc

pub unerased_found : (found : Found) (bytes : List ℕ) → ((found ≡ Erased) ↔ (bytes ≡ blank)) → is_erased found ≡ false → bytes ≢ blank
unerased_found Erased bytes is on = cc
unerased_found Bad bytes is off = λ erased. let found = is.1 erased in cc
unerased_found (Checks head used) bytes is off = λ erased. let found = is.1 erased in cc

pub erased_found : (found : Found) (bytes : List ℕ) → ((found ≡ Erased) ↔ (bytes ≡ blank)) → is_erased found ≡ true → bytes ≡ blank
erased_found Erased bytes is on = is.0 refl
erased_found Bad bytes is off = cc
erased_found (Checks head used) bytes is off = cc

-- ---- before they are read

pub none_marked : (o : Option Sector) (u : ℕ) → is_marked_by o u None ≡ false
none_marked None u = refl
none_marked (Some sector) u = refl

pub logs_first : (x : Contents) (mark : Option Sector) (current : ℕ → Option Winner) (units : ℕ) (it : Places)
    → AreUnitsMarked mark current units it → AreReadLogs x mark current units 0 it
logs_first x mark current units it are u low = first (current u) (are u low)
  where
    first : (home : Option Winner) → get_or it.written u 0 ≡ first_known mark u home → IsReadLog x mark u home 0 (get_or it.written u 0)
    first None is = inl (is ∙ rw (none_marked mark u) refl, λ winner none marked. absurd (let clash = none in cc))
    first (Some winner) is = elim (cases_Bool (is_marked_by mark u (Some winner))) [
      | inl marked ↦ inr (
        winner,
        refl,
        marked,
        record {
          count = 0;
          few = omega arith;
          read = λ n none. absurd (omega (arith, none));
          says = is ∙ rw marked refl;
          whole = λ n least most. absurd (omega (arith, least, most));
          others = λ n from small under. absurd (omega (arith, under));
        },
      )
      | inr other ↦ inl (is ∙ rw other refl, λ home same marked. absurd (false≢true (sym other ∙ marked)))
    ]

-- where marks don't count, nothing is known before
pub unknown_first : (marks : Bool) (mark now : MarksRead) (current : ℕ → Option Winner) (units : ℕ) (it : Places)
    → now ≡ cond marks mark none_read → marks ≡ false → AreUnitsMarked (counting now) current units it → NoneKnown units it
unknown_first marks mark now current units it is off are =
    let none : now ≡ none_read = is ∙ rw off refl in
    subst (λ (n : MarksRead). AreUnitsMarked (counting n) current units it) none are

-- where they count, it is the close mark's
pub marked_first : (marks : Bool) (c : Chart) (place generation : ℕ) (status : Option Winner) (mark now : MarksRead) (current : ℕ → Option Winner) (units : ℕ) (it : Places)
    → now ≡ cond marks mark none_read → mark ≡ marks_in c place generation → counting (marks_in c place generation) ≡ last_close_mark c status
    → AreUnitsMarked (counting now) current units it → AreUnitsMarked (mark_for marks c status) current units it
marked_first true c place generation status mark now current units it is read last are =
    subst (λ (m : Option Sector). AreUnitsMarked m current units it) (ap counting (is ∙ read) ∙ last) are
marked_first false c place generation status mark now current units it is read last are =
    subst (λ (m : Option Sector). AreUnitsMarked m current units it) (ap counting is) are

-- a unit that the mark has where marks count is one that the mark has
pub marked_where : (marks : Bool) (mark : Option Sector) (u : ℕ) (home : Option Winner)
    → is_marked_by (cond marks mark None) u home ≡ true → is_marked_by mark u home ≡ true
marked_where true mark u home is = is
marked_where false mark u home is = absurd (false≢true is)

-- ---- one sector more

-- what stands of a unit then
abbrev seen_written : Option KeptHeader → ℕ → ℕ → ℕ → Bool → Bool → ℕ
seen_written None u w s a b = w
seen_written (Some head) u w s a b = cond ((head.kind == 1) && (head.unit == u)) (noted_log w (s - 241) a b) w

written_seen : (o : Option KeptHeader) (it : Places) (u s : ℕ) (a b : Bool) → u < length it.written
    → get_or (seen_log o it s a b).written u 0 ≡ seen_written o u (get_or it.written u 0) s a b
written_seen None it u s a b low = refl
written_seen (Some head) it u s a b low = elim (cases_Bool (head.kind == 1)) [
  | inr other ↦ rw other refl
  | inl own ↦ elim (cases_eq head.unit u) [
    | inl same ↦ rw (own, eq-eqb head.unit u same)
        (subst (λ (v : ℕ). get_or (set it.written head.unit (noted_log (get_or it.written head.unit 0) (s - 241) a b)) v 0 ≡ noted_log (get_or it.written v 0) (s - 241) a b) same
        (get_or-set_same it.written head.unit _ 0 (omega (arith, low, same))))
    | inr other ↦ rw (own, ne_eqb head.unit u other)
        (get_or-set_other it.written head.unit u _ 0 (λ e. other (sym e)))
  ]
]

-- where nothing is known, nothing is known then
unknown_still : (o : Option KeptHeader) (u s : ℕ) (a b : Bool) → seen_written o u 32 s a b ≡ 32
unknown_still None u s a b = refl
unknown_still (Some head) u s a b = elim (cases_Bool ((head.kind == 1) && (head.unit == u))) [
  | inl here ↦ rw here refl
  | inr other ↦ rw other refl
]

pub unknown_seen : (o : Option KeptHeader) (it : Places) (s : ℕ) (a b : Bool) → StaysUnknown it (seen_log o it s a b)
unknown_seen o it s a b u unknown = elim (cases_lt u (length it.written)) [
  | inl within ↦ written_seen o it u s a b within ∙ (ap (λ (w : ℕ). seen_written o u w s a b) unknown ∙ unknown_still o u s a b)
  | inr past ↦ absurd (let none : get_or it.written u 0 ≡ 0 = get_or_past it.written u 0 (omega (arith, past)) in omega (arith, none, unknown))
]

pub unknown_from : {a b : Places} → SamePlaces a b → StaysUnknown a b
unknown_from same u unknown = ap (λ (ws : List ℕ). get_or ws u 0) same.written ∙ unknown

pub unknown_then : (a b c : Places) → StaysUnknown a b → StaysUnknown b c → StaysUnknown a c
unknown_then a b c one two u unknown = two u (one u unknown)

-- what is noted of one that a mark told
noted_marked : (count n : ℕ) (a b : Bool) → count ≤ 15
    → noted_log (16 + count) n a b ≡ cond b (16 + count) (cond (a && (16 + count == 16 + n)) (16 + count + 1) 32)
noted_marked count n a b few = rw (le-ltb (16 + count) 16 (omega arith), lt-ltb (16 + count) 32 (omega (arith, few))) refl

-- A log isn't whole in which a sector that isn't erased doesn't check, or isn't the next behind those that do.
torn_log : (x : Contents) (home k s w : ℕ) (a : Bool) → k ≡ home * 256 + s → 241 ≤ s → s < 256 → (knows : KnowsRead x home k w)
    → (a ≡ false → chart_of x home s ≡ None) → x home s ≢ blank
    → (a && (16 + knows.count == 16 + (s - 241))) ≡ false → ¬ HasWholeLog x home
torn_log x home k s w a here high below knows unchecked full other (count, whole) = elim (cases_lt s (241 + count)) [
  | inr past ↦ full (whole.erased s (omega (arith, past)) below)
  | inl within ↦ elim (cases_Bool a) [
    | inr off ↦ whole.checks s high within (unchecked off)
    | inl on ↦ elim (cases_lt (241 + knows.count) s) [
      | inl behind ↦ whole.checks (241 + knows.count) (omega arith) (omega (arith, behind, within))
          (ap sector_in (knows.others (241 + knows.count) (omega arith) (omega (arith, behind, below)) (omega (arith, behind, here))) ∙ blank_says_nothing)
      | inr least ↦ elim (cases_eq (16 + knows.count) (16 + (s - 241))) [
        | inl next ↦ let same : (a && (16 + knows.count == 16 + (s - 241))) ≡ true = rw (on, eq-eqb _ _ next) refl in false≢true (sym other ∙ same)
        | inr apart ↦ let read = knows.read (s - 241) (omega (arith, apart, least, high)) in omega (arith, read, high, here)
      ]
    ]
  ]
]

module _ (x : Contents) (mark : Option Sector) (heads : ℕ → Option KeptHeader) (current : ℕ → Option Winner) (p s : ℕ) (below : s < 256) (homes : AreHomes heads current) where
  -- the place of a unit's header is one where log sectors may stand
  spot_home : (u : ℕ) (winner : Winner) → current u ≡ Some winner → winner.place ≡ p → 241 ≤ s → is_log_spot heads current p s ≡ true
  spot_home u winner is same high =
      let (here, kind, unit) = homes u winner is in
      let there : heads p ≡ Some winner.head = ap heads (sym same) ∙ here in
      rw (there, kind, unit, is, le-leb 241 s high, eq-eqb winner.place p same) refl

  -- what is known below the next number, where that is another sector
  knows_past : (home w : ℕ) → ((home ≡ p) × (241 ≤ s) → ⊥) → KnowsRead x home (p * 256 + s) w → KnowsRead x home (p * 256 + s + 1) w
  knows_past home w elsewhere knows = record {
    count = knows.count;
    few = knows.few;
    read = λ n less. let before = knows.read n less in omega (arith, before);
    says = knows.says;
    whole = knows.whole;
    others = λ n from small under. elim (cases_eq (home * 256 + n) (p * 256 + s)) [
      | inl same ↦ absurd (elsewhere (omega (arith, same, small, below), omega (arith, same, small, below, from)))
      | inr other ↦ knows.others n from small (omega (arith, under, other))
    ];
  }

  -- where no log sector may stand, as much is known
  pub logs_past : (units : ℕ) (it : Places) → is_log_spot heads current p s ≡ false
      → AreReadLogs x mark current units (p * 256 + s) it → AreReadLogs x mark current units (p * 256 + s + 1) it
  logs_past units it none so_far u low = elim (so_far u low) [
    | inl unknown ↦ inl unknown
    | inr (winner, is, marked, knows) ↦ inr (winner, is, marked, knows_past winner.place _ (λ at. let spot = spot_home u winner is at.0 at.1 in let clash = sym spot ∙ none in cc) knows)
  ]

  module _ (spot : is_log_spot heads current p s ≡ true) (a b : Bool) (checks : a ≡ true → chart_of x p s ≢ None) (erased : b ≡ true → x p s ≡ blank)
      (unchecked : a ≡ false → chart_of x p s ≡ None) (unerased : b ≡ false → x p s ≢ blank) where
    -- what is dropped wasn't whole
    torn_here : (u w : ℕ) (winner : Winner) → current u ≡ Some winner → winner.place ≡ p → 241 ≤ s
        → (knows : KnowsRead x winner.place (p * 256 + s) w) → b ≡ false → (a && (16 + knows.count == 16 + (s - 241))) ≡ false
        → IsRightlyUnknown x mark u (current u)
    torn_here u w winner is same high knows full other home has marked whole =
        let e : Some home ≡ Some winner = sym has ∙ is in
        let one : home.place ≡ winner.place = cc in
        torn_log x winner.place (p * 256 + s) s w a (omega (arith, same)) high below knows
        (λ off. ap (λ (q : ℕ). chart_of x q s) same ∙ unchecked off)
        (λ erased. unerased full (ap (λ (q : ℕ). x q s) (sym same) ∙ erased)) other
        (subst (HasWholeLog x) one whole)

    -- the unit's own sector
    seen_here : (u w : ℕ) (winner : Winner) → current u ≡ Some winner → is_marked_by mark u (current u) ≡ true → winner.place ≡ p → 241 ≤ s
        → KnowsRead x winner.place (p * 256 + s) w → IsReadLog x mark u (current u) (p * 256 + s + 1) (noted_log w (s - 241) a b)
    seen_here u w winner is marked same high knows =
        let step : noted_log w (s - 241) a b ≡ cond b (16 + knows.count) (cond (a && (16 + knows.count == 16 + (s - 241))) (16 + knows.count + 1) 32) =
        ap (λ (v : ℕ). noted_log v (s - 241) a b) knows.says ∙ noted_marked knows.count (s - 241) a b knows.few in
        elim (cases_Bool b) [
          | inl is_blank ↦ inr (
            winner,
            is,
            marked,
            record {
              count = knows.count;
              few = knows.few;
              read = λ n less. let before = knows.read n less in omega (arith, before);
              says = step ∙ rw is_blank refl;
              whole = knows.whole;
              others = λ n from small under. elim (cases_eq n s) [
                | inl this ↦ subst (λ (m : ℕ). x winner.place m ≡ blank) (sym this) (subst (λ (q : ℕ). x q s ≡ blank) (sym same) (erased is_blank))
                | inr other ↦ knows.others n from small (omega (arith, under, other, same))
              ];
            },
          )
          | inr full ↦ elim (cases_Bool (a && (16 + knows.count == 16 + (s - 241)))) [
            | inr other ↦ inl (step ∙ rw (full, other) refl, torn_here u w winner is same high knows full other)
            | inl next ↦
                let parts = and_parts a (16 + knows.count == 16 + (s - 241)) next in
                let number : 16 + knows.count ≡ 16 + (s - 241) = eqb-true _ _ parts.1 in
                inr (
                  winner,
                  is,
                  marked,
                  record {
                    count = knows.count + 1;
                    few = omega (arith, number, below, high);
                    read = λ n less. elim (cases_lt n knows.count) [
                      | inl seen ↦ let before = knows.read n seen in omega (arith, before)
                      | inr last ↦ omega (arith, less, last, number, high, same)
                    ];
                    says = step ∙ rw (full, next) (omega arith);
                    whole = λ n least most. elim (cases_eq n s) [
                      | inl this ↦ subst (λ (m : ℕ). chart_of x winner.place m ≢ None) (sym this) (subst (λ (q : ℕ). chart_of x q s ≢ None) (sym same) (checks parts.0))
                      | inr other ↦ knows.whole n least (omega (arith, most, other, number, high))
                    ];
                    others = λ n from small under. absurd (omega (arith, from, under, same, number, high));
                  },
                )
          ]
        ]

    there_at : (o : Option Winner) (winner : Winner) → o ≡ Some winner → is_at o p ≡ true → winner.place ≡ p
    there_at o winner is at = eqb-true winner.place p (ap (λ (w : Option Winner). is_at w p) (sym is) ∙ at)

    -- in a place with this header
    seen_in : (o : Option KeptHeader) → heads p ≡ o → (u w : ℕ) → IsReadLog x mark u (current u) (p * 256 + s) w
        → IsReadLog x mark u (current u) (p * 256 + s + 1) (seen_written o u w s a b)
    seen_in o is_o u w (inl (unknown, right)) = inl (ap (λ (v : ℕ). seen_written o u v s a b) unknown ∙ unknown_still o u s a b, right)
    seen_in None is_o u w (inr (winner, is, marked, knows)) =
        inr (winner, is, marked, knows_past winner.place w (λ at. let clash = sym (ap heads (sym at.0) ∙ (homes u winner is).0) ∙ is_o in cc) knows)
    seen_in (Some head) is_o u w (inr (winner, is, marked, knows)) = elim (cases_Bool ((head.kind == 1) && (head.unit == u))) [
      | inl here ↦
          let mine = and_parts (head.kind == 1) (head.unit == u) here in
          let kind : head.kind ≡ 1 = eqb-true head.kind 1 mine.0 in
          let unit : head.unit ≡ u = eqb-true head.unit u mine.1 in
          let stands : (nat_le 241 s && is_at (current u) p) ≡ true = rw (is_o, kind, unit) at spot in
          let last = and_parts (nat_le 241 s) (is_at (current u) p) stands in
          rw here (seen_here u w winner is marked (there_at (current u) winner is last.1) (leb-true 241 s last.0) knows)
      | inr other ↦ rw other (inr (
        winner,
        is,
        marked,
        knows_past winner.place w (λ at.
            let (there, kind, unit) = homes u winner is in
            let same : head ≡ winner.head = (let e : Some head ≡ Some winner.head = sym is_o ∙ (ap heads (sym at.0) ∙ there) in cc) in
            let mine : ((head.kind == 1) && (head.unit == u)) ≡ true = rw (ap (λ (h : KeptHeader). h.kind) same ∙ kind, ap (λ (h : KeptHeader). h.unit) same ∙ unit, eq-eqb u u refl) refl in
            let clash = sym mine ∙ other in cc) knows,
      ))
    ]

    -- the next sector is seen
    pub logs_seen : (units : ℕ) (it now : Places) → now ≡ seen_log (heads p) it s a b
        → AreReadLogs x mark current units (p * 256 + s) it → AreReadLogs x mark current units (p * 256 + s + 1) now
    logs_seen units it now is so_far u low = elim (cases_lt u (length it.written)) [
      | inl within ↦ subst (IsReadLog x mark u (current u) (p * 256 + s + 1))
          (sym (ap (λ (d : Places). get_or d.written u 0) is ∙ written_seen (heads p) it u s a b within))
          (seen_in (heads p) refl u _ (so_far u low))
      | inr past ↦ absurd (let none : get_or it.written u 0 ≡ 0 = get_or_past it.written u 0 (omega (arith, past)) in elim (so_far u low) [
        | inl (unknown, right) ↦ omega (arith, none, unknown)
        | inr (winner, has, marked, knows) ↦ omega (arith, none, knows.says)
      ])
    ]

-- ---- the units that the mark has

-- of the other units, nothing is known yet
abbrev pub AreLater : ℕ → ℕ → Places → Type 0
AreLater n units it = (u : ℕ) → n ≤ u → u < units → get_or it.written u 0 ≡ 32

-- one more of them that it has
pub marks_one : (mark : Option Sector) (current : ℕ → Option Winner) (n units : ℕ) (it now : Places) → n < units → is_marked_by mark n (current n) ≡ true
    → now ≡ with_marked it n 0 → AreUnitsMarked mark current n it → AreLater n units it → AreUnitsMarked mark current (n + 1) now × AreLater (n + 1) units now
marks_one mark current n units it now low marked is so_far later =
    let there : n < length it.written = elim (cases_lt n (length it.written)) [
      | inl within ↦ within
      | inr past ↦ absurd (let none : get_or it.written n 0 ≡ 0 = get_or_past it.written n 0 (omega (arith, past)) in omega (arith, none, later n (omega arith) low))
    ] in (
      λ u below. ap (λ (d : Places). get_or d.written u 0) is ∙ elim (cases_eq u n) [
        | inl same ↦ subst (λ (v : ℕ). get_or (set it.written n 16) v 0 ≡ first_known mark v (current v)) (sym same)
            (get_or-set_same it.written n 16 0 there ∙ rw marked refl)
        | inr other ↦ get_or-set_other it.written n u 16 0 other ∙ so_far u (omega (arith, below, other))
      ],
      λ u above small. ap (λ (d : Places). get_or d.written u 0) is
          ∙ (get_or-set_other it.written n u 16 0 (λ e. absurd (omega (arith, e, above))) ∙ later u (omega (arith, above)) small),
    )

-- one more that it hasn't
pub marks_none : (mark : Option Sector) (current : ℕ → Option Winner) (n units : ℕ) (it : Places) → n < units → is_marked_by mark n (current n) ≡ false
    → AreUnitsMarked mark current n it → AreLater n units it → AreUnitsMarked mark current (n + 1) it × AreLater (n + 1) units it
marks_none mark current n units it low other so_far later = (
  λ u below. elim (cases_eq u n) [
    | inl same ↦ subst (λ (v : ℕ). get_or it.written v 0 ≡ first_known mark v (current v)) (sym same) (later n (omega arith) low ∙ rw other refl)
    | inr apart ↦ so_far u (omega (arith, below, apart))
  ],
  λ u above small. later u (omega (arith, above)) small,
)

-- ---- once all are read

-- what stands of a unit's log sectors, by the chart
pub read_opened : (x : Contents) (places : ℕ) (marks : Bool) (current : ℕ → Option Winner) (status : Option Winner) (u written : ℕ)
    → current ≡ current_at (chart_of x) places → status ≡ status_at (chart_of x) places
    → ((winner : Winner) → current u ≡ Some winner → winner.place < places)
    → IsReadLog x (mark_for marks (chart_of x) status) u (current u) (places * 256) written → IsOpenedLog places (chart_of x) u written
read_opened x places marks current status u written currents its within (inl (unknown, right)) = inl unknown
read_opened x places marks current status u written currents its within (inr (winner, is, here_marked, knows)) =
    let marked = marked_where marks (last_close_mark (chart_of x) status) u (current u) here_marked in
    let here : current_at (chart_of x) places u ≡ Some winner = ap (λ (c : ℕ → Option Winner). c u) (sym currents) ∙ is in
    let home : place_of (current_at (chart_of x) places u) ≡ winner.place = ap place_of here in
    inr (
      subst (λ (c : ℕ → Option Winner). is_marked_by (last_close_mark (chart_of x) (status_at (chart_of x) places)) u (c u) ≡ true) currents
          (subst (λ (o : Option Winner). is_marked_by (last_close_mark (chart_of x) o) u (current u) ≡ true) its marked),
      subst (λ (p : ℕ). KnowsLogs (chart_of x) p written) (sym home) (record {
        count = knows.count;
        few = knows.few;
        says = knows.says;
        whole = knows.whole;
        others = λ n from small. ap sector_in (knows.others n from small (let low = within winner is in omega (arith, low, small))) ∙ blank_says_nothing;
      }),
    )
