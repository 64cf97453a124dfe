use Rattle.std.proofs.Common.{◌≢◌, ℕ, List, refl, sym, subst, arith, rules}
use Rattle.std.proofs.lemmas.Bool.{false≢true}
use Rattle.std.proofs.lemmas.Result.{err_from_is_err_and}
use Rattle.ipl_base.specs.declared.limits.TheConstants.{VERSION}
use Rattle.ipl_format.specs.Page.{IsPageText, SpellsPage}
use Rattle.ipl_format.proofs.PageLemmas.{later_pages_are_alike}
use Rattle.unit_io.proofs.TextLemmas.{later_text, text_of_later}
use Rattle.unit_io.proofs.HeldLemmas.{sound_held, fault_of_pieces, fault_of_text, no_page_fault}
use Rattle.unit_io.proofs.page_reading.read_page.Goals as goal

pub returns-in_err-end-clause-reads : goal.returns-in_err-end-clause-reads
returns-in_err-end-clause-reads g c =
    let e = err_from_is_err_and c.from_residual.result c.from_residual.ensures.1 in record {
      exact = λ x told. rw (e.1, e.2) (λ other.
          fault_of_pieces x c.args.place c.args.head.now.version c.args.head.now.unit c.args.head.now.generation
          c.args.page c.args.pieces _ (c.in_err-end.ensures.exact x told other));
      holds = search rules;
      empty = search rules;
      asks = search rules;
      accounts = search rules;
    }

pub returns-then-not-read-clause-reads : goal.returns-then-not-read-clause-reads
returns-then-not-read-clause-reads g c =
    let later : c.args.head.now.version ≢ 1 = λ same. absurd (omega (arith, same)) in
    let version = c.args.head.now.version in record {
      exact = λ x told other.
          rw c.base_sector-sector.ensures.sector (fault_of_text x c.args.place version c.args.head.now.unit c.args.head.now.generation
          c.args.page c.args.pieces (c.in_ok-end.ensures.exact x told)
          (λ text. false≢true (c.if-not-read.ensures.exact.1 (subst (IsPageText VERSION) (sym (c.in_ok-end.ensures.text.text x told))
          (later_text version _ later text)))));
      holds = tt;
      empty = search rules;
      asks = search rules;
      accounts = search rules;
    }

pub returns-clause-reads : goal.returns-clause-reads
returns-clause-reads g c =
    let later : c.args.head.now.version ≢ 1 = λ same. absurd (omega (arith, same)) in
    let version = c.args.head.now.version in record {
      exact = λ x told.
          no_page_fault x c.args.place version c.args.head.now.unit c.args.head.now.generation
          c.args.page c.args.pieces (c.in_ok-end.ensures.exact x told)
          (text_of_later version _ later
          (subst (IsPageText VERSION) (c.in_ok-end.ensures.text.text x told) (c.if-not-read.ensures.exact.0 refl)));
      holds = λ x told.
          sound_held x c.args.place version c.args.head.now.unit c.args.head.now.generation
          c.args.page c.args.pieces _ (c.in_ok-end.ensures.exact x told)
          ((later_pages_are_alike version _ _ later).0
          (subst (λ (t : List ℕ). SpellsPage VERSION t c.read.new.self.page) (c.in_ok-end.ensures.text.text x told)
          c.if-not-read.ensures.page));
      empty = tt;
      asks = search rules;
      accounts = search rules;
    }
