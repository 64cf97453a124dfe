-- What a renewal leaves of a story that rests on a map.
use Rattle.std.proofs.Common.{◌≡◌, ◌≢◌, true, false, inl, inr, get_or, Ok, Err, refl, sym, ◌∙◌, ap, subst, arith}
use Rattle.std.specs.List.{Contains}
use Rattle.std.proofs.lemmas.Bool.{cases_Bool}
use Rattle.std.proofs.lemmas.List.Elements.{Contains-get_or}
use Rattle.chip_trait.specs.Story.{Contents, held}
use Rattle.chip_trait.specs.Told.{History, Told, Unrisen, adds_all}
use Rattle.ipl_base.specs.declared.fault.ChipFault.{ChipFault}
use Rattle.ipl_base.specs.declared.fault.ChipFault.TheVariants.{Stopped}
use Rattle.ipl_format.specs.Record.{Record}
use Rattle.ipl_meaning.proofs.CarriedLemmas.{tidy_is_carried}
use Rattle.ipl_meaning.specs.Chart.{Chart, chart_of}
use Rattle.ipl_meaning.specs.Layout.{Shape, records_of}
use Rattle.ipl_meaning.specs.Rests.{now}
use Rattle.ipl_meaning.specs.Tables.{Places}
use Rattle.unit_io.specs.Leads.{IsSteady}
use Rattle.restart.specs.Passes.{HasStopped, HasRenewed, TellsChart, RenewCause}
use Rattle.restart.specs.Renewals.{PassedLogsAreSameOrCarried, ExactNumbersKeep, RenewalsRest}
use Rattle.restart.proofs.UnitLemmas.{repacked_is_carried}
use Rattle.restart.proofs.PreserveLemmas.{same_told}

pub passed_logs_are_same_or_carried : PassedLogsAreSameOrCarried
passed_logs_are_same_or_carried active it now alike u low = elim (alike.units u low) [
  | inl same ↦ inl (ap (λ (s : Shape). records_of s.log) same)
  | inr merged ↦ inr (repacked_is_carried active u (it.units u) (now.units u) merged)
]

-- ---- numbers

pub exact_numbers_keep : ExactNumbersKeep
exact_numbers_keep it new exact u low k none within =
    let r : Record = get_or (records_of (new.units u).log) k none in
    let has : Contains (records_of (new.units u).log) r =
    Contains-get_or (records_of (new.units u).log) k none within in
    elim (cases_Bool (it.committed r.tid)) [
      | inl is ↦ (exact r.tid).1 (is, (u, low, (r, has, refl))) ∙ sym is
      | inr other ↦ elim (cases_Bool (new.committed r.tid)) [
        | inl still ↦
            let was = ((exact r.tid).0 still).0 in
            let no_way : true ≡ false = sym was ∙ other in absurd cc
        | inr gone ↦ gone ∙ sym other
      ]
    ]

-- ---- the story

-- what is told of a steady chip is held
of_held : (F : Chart → Type 0) (k : History) (told : Told) → IsSteady k told → TellsChart F told
    → F (now k)
of_held F k told steady (y, is, has) =
    subst (λ (x : Contents). F (chart_of x))
    (same_told y (held k.start k.story) (sym is ∙ steady.holds)) has

-- where no write failed, the fault is another one
pub soft_end : (after : Places) (fault : ChipFault) (old new : Told) → RenewCause after fault old new
    → Unrisen old new → fault ≢ Stopped
soft_end after fault old new cause unrisen is =
    let rose : RenewCause after Stopped old new =
    subst (λ (f : ChipFault). RenewCause after f old new) is cause in omega (arith, rose, unrisen)

pub renewals_rest : RenewalsRest
renewals_rest places m it h t after old new (Ok v) steady rests agrees tells keeps accounts =
    let did = keeps m it h steady rests agrees in
    let k = adds_all did.added h in
    let (y, told, renews) = tells (held h.start h.story) steady.holds in
    record {
      added = did.added;
      places = did.places;
      history = did.history;
      each_moment = did.each_moment;
      marks = did.marks;
      does = did.does;
      steady = did.steady;
      ends = λ _. record {
        rests = did.ends tt;
        renewed = of_held (HasRenewed places (now h) it t after) k new (did.steady tt)
            (y, told, renews it agrees.mirrors);
        tidy = tidy_is_carried places h it t after did.added agrees (did.does.clean tt);
      };
    }
renewals_rest places m it h t after old new (Err e) steady rests agrees tells keeps accounts =
    let did = keeps m it h steady rests agrees in
    let k = adds_all did.added h in
    record {
      added = did.added;
      places = did.places;
      history = did.history;
      each_moment = did.each_moment;
      marks = did.marks;
      does = did.does;
      steady = did.steady;
      ends = λ unrisen.
          let (y, told, stops) = tells (soft_end after.places e old new accounts.cause unrisen)
          (held h.start h.story) steady.holds in record {
            rests = did.ends unrisen;
            stopped = of_held (HasStopped places (now h) it t after) k new (did.steady unrisen)
                (y, told, stops it agrees.mirrors);
            tidy = tidy_is_carried places h it t after did.added agrees (did.does.clean unrisen);
          };
    }
