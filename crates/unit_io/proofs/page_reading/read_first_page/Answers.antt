use Rattle.std.proofs.Common.{ℕ, List, refl, sym, ◌∙◌, subst, rules}
use Rattle.std.proofs.lemmas.Bool.{false≢true}
use Rattle.std.proofs.lemmas.Result.{err_from_is_err_and}
use Rattle.ipl_format.specs.Page.{IsPageText, SpellsPage}
use Rattle.ipl_meaning.specs.Chart.{chart_of}
use Rattle.unit_io.specs.Faults.{text_below}
use Rattle.unit_io.proofs.HeldLemmas.{sound_held, fault_of_pieces, fault_of_text, no_page_fault}
use Rattle.unit_io.proofs.page_reading.read_first_page.Goals as goal

pub returns-in_err-end : goal.returns-in_err-end
returns-in_err-end g c =
    let e = err_from_is_err_and c.from_residual.result c.from_residual.ensures.1 in record {
      reads = record {
        exact = λ x told. rw (e.1, e.2) (λ other.
            fault_of_pieces x c.args.place c.args.head.now.version c.args.head.now.unit c.args.head.now.generation
            c.args.page c.args.pieces _ (c.in_err-end.ensures.exact x told other));
        holds = search rules;
        empty = search rules;
        asks = search rules;
        accounts = search rules;
      };
    }

pub returns-then-not-read : goal.returns-then-not-read
returns-then-not-read g c = record {
  reads = record {
    exact = λ x told other.
        let first = c.requires.version in
        let text_is = c.front.ensures ∙ c.in_ok-end.ensures.text.text x told in
        rw c.base_sector-sector.ensures.sector (fault_of_text x c.args.place c.args.head.now.version c.args.head.now.unit c.args.head.now.generation
        c.args.page c.args.pieces (c.in_ok-end.ensures.exact x told)
        (λ text. false≢true (c.if-not-read.ensures.exact.1 (subst (IsPageText 1) (sym text_is)
        (subst (λ (v : ℕ). IsPageText v
        (text_below (chart_of x) c.args.place c.args.page c.args.pieces)) first text)))));
    holds = tt;
    empty = search rules;
    asks = search rules;
    accounts = search rules;
  };
}

pub returns : goal.returns
returns g c =
    let first = c.requires.version in record {
      reads = record {
        exact = λ x told.
            let text_is = c.front.ensures ∙ c.in_ok-end.ensures.text.text x told in
            no_page_fault x c.args.place c.args.head.now.version c.args.head.now.unit c.args.head.now.generation
            c.args.page c.args.pieces (c.in_ok-end.ensures.exact x told)
            (subst (λ (v : ℕ). IsPageText v
            (text_below (chart_of x) c.args.place c.args.page c.args.pieces)) (sym first)
            (subst (IsPageText 1) text_is (c.if-not-read.ensures.exact.0 refl)));
        holds = λ x told.
            let text_is = c.front.ensures ∙ c.in_ok-end.ensures.text.text x told in
            sound_held x c.args.place c.args.head.now.version c.args.head.now.unit c.args.head.now.generation
            c.args.page c.args.pieces _ (c.in_ok-end.ensures.exact x told)
            (subst (λ (v : ℕ). SpellsPage v
            (text_below (chart_of x) c.args.place c.args.page c.args.pieces) c.read.new.map) (sym first)
            (subst (λ (t : List ℕ). SpellsPage 1 t c.read.new.map) text_is c.if-not-read.ensures.page));
        empty = tt;
        asks = search rules;
        accounts = search rules;
      };
    }
