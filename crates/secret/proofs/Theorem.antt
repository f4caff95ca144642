-- The box's secret: up to the load the two lists are one, and from it to the first call of close after its deal the two tables differ in cards that nobody sees.
use mathlib.Core.Path.{◌≡◌, sym, ◌∙◌, ap, ap₂}
use mathlib.Core.Bool.{true}
use mathlib.Core.List.{List, ◌∷◌, ◌++◌}
use Prim.Native.Nat.{ℕ, ◌<◌}
use lib.ListN.{length, take, length-append}
use Rattle.call.specs.declared.Call.TheVariants.{Load}
use Rattle.call.specs.Answer.{Answer}
use Rattle.options.specs.declared.Options.{Options}
use Rattle.options.specs.Device.{is_box}
use Rattle.table.specs.declared.Table.{Table}
use Rattle.history.specs.Entry.{Entry}
use Rattle.answer.specs.Reply.{reply_by}
use Rattle.cashier_spec.specs.Opening.{open_number, opened}
use Rattle.cashier_spec.proofs.Opening.{accepted_table}
use Rattle.display.specs.InSight.{ShowsSame}
use Rattle.engine.specs.Step.{step, number, next}
use Rattle.engine.specs.Run.{run, answers}
use Rattle.books.specs.Laws.{Whole}
use Rattle.books.proofs.Theorem.{run_options}
use Rattle.secret.specs.Secret.{exchanged, load, up_to_close, OneLoad, LoadSecret, AtOpening, OpeningSecret}
use Rattle.secret.proofs.Kept.{run-whole, opens_whole}
use Rattle.secret.proofs.Plays.{run-append, answers-append, answers-taken, Plays}
use Rattle.secret.proofs.Dealt.{hidden_before, hides_plays}
use Rattle.secret.proofs.Loaded.{opening-accepted, other_loads, load-before, other_opens, open_before}

-- accepted loads answer the same
loads-same : (t : Table) (order other : List ℕ) → number t Load order ≡ 0 → number t Load other ≡ 0 → (step t Load order).answer ≡ (step t Load other).answer
unfolding number step reply_by
loads-same t order other zero other-zero = simp (zero, other-zero)

module _ (o : Options) (before : List Entry) (lent : List ℕ) (behind : List Entry) (p q : ℕ) where
  module _ (opening : List ℕ) (earlier : List Entry) (order : List ℕ) where
    pub load_secret : OneLoad o before lent behind p q opening earlier order → LoadSecret o before lent behind p q opening earlier order
    unfolding run answers
    load_secret one = record { same-answers = cut; same-shown = rw (run-append start earlier (from order), run-append start earlier (from other)) plays.ends }
      where
        start : Table
        start = opened o opening

        t : Table
        t = run start earlier

        other : List ℕ
        other = exchanged p q order

        from : List ℕ → List Entry
        from loaded = load loaded ∷ up_to_close before lent behind

        opens : open_number o opening ≡ 0
        opens = opening-accepted o opening earlier order one.loads

        whole : Whole t
        whole = run-whole start earlier (opens_whole o opening opens)

        box : is_box t.options ≡ true
        box = ap is_box (run_options start earlier ∙ ap (λ x. x.options) (accepted_table o opening opens)) ∙ one.box

        less : p < q
        less = hidden_before p q (next t Load order) before lent behind one.hides

        plays : Plays ShowsSame (up_to_close before lent behind) (next t Load order) (next t Load other)
        plays =
            hides_plays p q (next t Load order) (next t Load other) before lent behind
            (load-before p q less one.hides.place t order whole one.loads box) one.hides

        same : answers t (from order) ≡ answers t (from other)
        same =
            ap₂ (λ (a : Answer) (later : List Answer). a ∷ later) (loads-same t order other one.loads (other_loads p q less one.hides.place t order whole one.loads))
            (sym plays.answers_same)

        all : answers start (earlier ++ from order) ≡ answers start (earlier ++ from other)
        all = answers-append start earlier (from order) ∙ ap (λ (later : List Answer). answers start earlier ++ later) same ∙ sym (answers-append start earlier (from other))

        long : length (earlier ++ from other) ≡ length (earlier ++ from order)
        long = length-append earlier (from other) ∙ sym (length-append earlier (from order))

        cut : (rest : List Entry) → take (length (earlier ++ from order)) (answers start (earlier ++ from order ++ rest)) ≡ take (length (earlier ++ from order)) (answers start (earlier ++ from other ++ rest))
        cut rest =
            answers-taken start (earlier ++ from order) rest ∙ all ∙ sym (answers-taken start (earlier ++ from other) rest)
            ∙ ap (λ (n : ℕ). take n (answers start (earlier ++ from other ++ rest))) long

  pub opening_secret : (order : List ℕ) → AtOpening o before lent behind p q order → OpeningSecret o before lent behind p q order
  opening_secret order at =
      let less = hidden_before p q (opened o order) before lent behind at.hides in
      let other-opened = other_opens p q less at.hides.place o order at.opens in
      let plays = hides_plays p q (opened o order) (opened o (exchanged p q order)) before lent behind (open_before p q less at.hides.place o order at.opens at.box) at.hides in
      let calls = up_to_close before lent behind in
      record {
        same-opening = other-opened ∙ sym at.opens;
        same-answers = λ rest. answers-taken (opened o order) calls rest ∙ sym plays.answers_same ∙ sym (answers-taken (opened o (exchanged p q order)) calls rest);
        same-shown = plays.ends;
      }
