-- Simple commands.
use Rattle.std.proofs.Common.{◌≡◌, ℕ, ◌+◌, ◌<◌, ◌≤◌, Bool, true, false, ◌≢◌, List, [], length, get_or, set, sym, refl, ap, ◌∙◌, arith, length-set}
use mathlib.Core.Option.{some, none}
use Rattle.std.proofs.lemmas.List.{get_or-set_same, get_or-set_other}
use Rattle.syntax.specs.Tree.{Word, no_words, and_word, Assignments, no_assignments, assign, no_redirects, simple}
use Rattle.grammar.specs.Tokens.{Token, token}
use Rattle.grammar.specs.Parser.{Parsed, level, parse_word, parse_words, parse_redirects, parse_simple, assignments_alone, first_word_fits, no_word, lookahead, next_joined}
use Rattle.code.specs.Layout.{AssignmentsAt}
use Rattle.lexer.specs.Stored.{tokens_of, tokens_from, Has, code_at}
use Rattle.reader.specs.Reading.{ends_words, joins, may_be_first, GotAssignments, GotWord, GotWords, GotRedirects, GotCommand}
use Rattle.reader.proofs.Views.{here, glued_is}
use Rattle.reader.proofs.Frame.{parts_frame, assignments_frame, words_frame}
use Rattle.reader.proofs.Signs.{ends_is}
use Rattle.reader.proofs.Basics.{max_assoc}
use Rattle.reader.proofs.First.{first_is}

assignments_zero : (t : List ℕ) (ss : Assignments) (lo hi : ℕ) (m : List ℕ) (p : ℕ) → AssignmentsAt t ss lo hi m p → get_or m p 0 ≡ 0 → ss ≡ no_assignments
assignments_zero t no_assignments lo hi m p h e = refl
assignments_zero t (assign x w ss) lo hi m p h e = absurd (omega (arith, h.2.0, h.2.2, e))

assignments_some : (t : List ℕ) (ss : Assignments) (lo hi : ℕ) (m : List ℕ) (p : ℕ) (r : List Token) → AssignmentsAt t ss lo hi m p → get_or m p 0 ≢ 0 → assignments_alone ss r ≡ some (simple ss no_words no_redirects, r)
assignments_some t no_assignments lo hi m p r h e = absurd (e h)
assignments_some t (assign x w ss) lo hi m p r h e = refl

module _ (t : List ℕ) (n i d : ℕ) (w : List ℕ) (top : ℕ) (z : top + 5 ≤ length w) {m : List ℕ} (hs : Has t n m) {s0 sa : ℕ} {w1 : List ℕ} {ja fa : ℕ} (a : GotAssignments t n i d (set w (top + 1) 0) w1 (top + 5) (top + 2) ja fa s0 sa) (k : ℕ) (ke : k ≡ code_at (tokens_from t ja)) where
  nw : {b : Bool} → b ≡ ends_words k → no_word (lookahead (tokens_from t ja)) ≡ b
  nw e = ends_is (tokens_from t ja) ∙ (ap ends_words (sym ke) ∙ sym e)

  pub empty_none : true ≡ ends_words k → get_or w1 (top + 2) 0 ≡ 0 → parse_simple (level d) (tokens_from t i) ≡ none
  empty_none e f = rw (a.is, nw e, assignments_zero t a.tree (top + 5) fa w1 (top + 2) a.coded f)

  pub alone_got : true ≡ ends_words k → get_or w1 (top + 2) 0 ≢ 0 → GotCommand t n i (parse_simple (level d) (tokens_from t i)) w (set (set w1 (top + 3) 0) (top + 4) 0) top ja fa s0 sa
  alone_got e f =
      let v = set w1 (top + 3) 0 in
      let v2 = set v (top + 4) 0 in
      let ab = a.above in
      let ft = a.fits in
      record { tree = simple a.tree no_words no_redirects; is = rw (a.is, nw e) (assignments_some t a.tree (top + 5) fa w1 (top + 2) (tokens_from t ja) a.coded f); coded = ((fa, fa, get_or-set_other v (top + 4) (top + 1) 0 0 (omega arith) ∙ (get_or-set_other w1 (top + 3) (top + 1) 0 0 (omega arith) ∙ (a.kept (top + 1) (omega arith) (omega arith) ∙ get_or-set_same w (top + 1) 0 0 (omega arith))), ab, omega arith, omega arith, assignments_frame t w1 v2 a.tree (top + 5) fa (top + 2) (λ x u y. get_or-set_other v (top + 4) x 0 0 (omega arith) ∙ get_or-set_other w1 (top + 3) x 0 0 (omega arith)) (get_or-set_other v (top + 4) (top + 2) 0 0 (omega arith) ∙ get_or-set_other w1 (top + 3) (top + 2) 0 0 (omega arith)) a.coded, get_or-set_other v (top + 4) (top + 3) 0 0 (omega arith) ∙ get_or-set_same w1 (top + 3) 0 0 (omega arith), get_or-set_same v (top + 4) 0 0 (omega (arith, length-set w1 (top + 3) 0))), omega arith); staged = omega (arith, a.staged); kept = λ x u y. get_or-set_other v (top + 4) x 0 0 (omega arith) ∙ (get_or-set_other w1 (top + 3) x 0 0 (omega arith) ∙ (a.kept x (omega arith) (omega arith) ∙ get_or-set_other w (top + 1) x 0 0 (omega arith))); goes = a.goes; within = a.within; above = omega arith; fits = omega (arith, length-set v (top + 4) 0, length-set w1 (top + 3) 0); room = omega (arith, a.room) }

  pub sticky_none : false ≡ ends_words k → true ≡ joins k → parse_simple (level d) (tokens_from t i) ≡ none
  sticky_none e f = rw (a.is, nw e, glued_is (tokens_from t ja) ∙ (ap joins (sym ke) ∙ sym f))

  module _ (ne : false ≡ ends_words k) (ns : false ≡ joins k) (lt : ja < n) (g : ℕ) (ge : g ≡ code_at (tokens_from t (ja + 1))) (fo : Bool) (fe : fo ≡ may_be_first k (joins g)) where
    first_w : (x : Word) (q : List Token) → parse_word (level d) (tokens_from t ja) ≡ some (x, q) → first_word_fits x ≡ fo
    first_w x q e =
        let p = get_or (tokens_of t) ja (token false 0 []) in
        let hr = here ja hs lt in
        let sk : p.joined ≡ false = sym (ap next_joined hr) ∙ (glued_is (tokens_from t ja) ∙ (ap joins (sym ke) ∙ sym ns)) in
        first_is (level d) p (tokens_from t (ja + 1)) x q sk (sym (ap (parse_word (level d)) hr) ∙ e) ∙ (ap (λ s. may_be_first s (next_joined (tokens_from t (ja + 1)))) (sym (ap code_at hr) ∙ sym ke) ∙ (ap (may_be_first k) (glued_is (tokens_from t (ja + 1)) ∙ ap joins (sym ge)) ∙ sym fe))

    pub not_first : fo ≡ false → parse_simple (level d) (tokens_from t i) ≡ none
    not_first e = by (parse_word (level d) (tokens_from t ja)) refl
      where
        by : (o : Parsed Word) → parse_word (level d) (tokens_from t ja) ≡ o → parse_simple (level d) (tokens_from t i) ≡ none
        by none f = rw (a.is, nw ne, f)
        by (some x) f = rw (a.is, nw ne, f, first_w x.0 x.1 f ∙ e)

    pub word_out : parse_word (level d) (tokens_from t ja) ≡ none → parse_simple (level d) (tokens_from t i) ≡ none
    word_out e = rw (a.is, nw ne, e)

    module _ (ok : fo ≡ true) {w2 : List ℕ} {jb fb sb : ℕ} (b : GotWord t n ja d (set w1 (top + 3) fa) w2 (fa + 2) (fa + 1) jb fb sa sb) where
      pub words_out : parse_words (level d) (tokens_from t jb) ≡ none → parse_simple (level d) (tokens_from t i) ≡ none
      words_out e = rw (a.is, nw ne, b.is, first_w b.tree (tokens_from t jb) b.is ∙ ok, e)

      module _ {w3 : List ℕ} {jc fc sc : ℕ} (c : GotWords t n jb d w2 w3 fb fa jc fc sb sc) where
        pub redirects_out : parse_redirects (level d) (tokens_from t jc) ≡ none → parse_simple (level d) (tokens_from t i) ≡ none
        redirects_out e = rw (a.is, nw ne, b.is, first_w b.tree (tokens_from t jb) b.is ∙ ok, c.is, e)

        pub simple_got : {w4 : List ℕ} {je fe4 se : ℕ} → fa ≤ length w1 → GotRedirects t n jc d w3 w4 fc (top + 4) je fe4 sc se → GotCommand t n i (parse_simple (level d) (tokens_from t i)) w w4 top je fe4 s0 se
        simple_got {w4} {je} {fe4} {se} q e =
            let aa = a.above in
            let ba = b.above in
            let ca = c.above in
            let down : (x : ℕ) → x < fa → x ≢ top + 4 → x ≢ top + 3 → get_or w4 x 0 ≡ get_or w1 x 0 = λ x u y v. e.kept x (omega arith) y ∙ (c.kept x (omega arith) (omega arith) ∙ (b.kept x (omega arith) (omega arith) ∙ get_or-set_other w1 (top + 3) x fa 0 v)) in
            let lk : get_or w4 (top + 3) 0 ≡ fa = e.kept (top + 3) (omega arith) (omega arith) ∙ (c.kept (top + 3) (omega arith) (omega arith) ∙ (b.kept (top + 3) (omega arith) (omega arith) ∙ get_or-set_same w1 (top + 3) fa 0 (omega arith))) in
            let up : (x : ℕ) → fa ≤ x → x < fb → x ≢ fa → get_or w4 x 0 ≡ get_or w2 x 0 = λ x u y v. e.kept x (omega arith) (omega arith) ∙ c.kept x y v in
            record { tree = simple a.tree (and_word b.tree c.tree) e.tree; is = rw (a.is, nw ne, b.is, first_w b.tree (tokens_from t jb) b.is ∙ ok, c.is, e.is); coded = ((fa, fc, down (top + 1) (omega arith) (omega arith) (omega arith) ∙ (a.kept (top + 1) (omega arith) (omega arith) ∙ get_or-set_same w (top + 1) 0 0 (omega arith)), aa, omega arith, e.above, assignments_frame t w1 w4 a.tree (top + 5) fa (top + 2) (λ x u y. down x y (omega arith) (omega arith)) (down (top + 2) (omega arith) (omega arith) (omega arith)) a.coded, (fa, fb, (lk, omega arith, omega arith, ba, ca), parts_frame t w2 w4 b.tree (fa + 2) fb (fa + 1) (λ x u y. up x (omega arith) y (omega arith)) (up (fa + 1) (omega arith) (omega arith) (omega arith)) b.coded, words_frame t w3 w4 c.tree fb fc fa (λ x u y. e.kept x y (omega arith)) (e.kept fa (omega arith) (omega arith)) c.coded), e.coded), omega (arith, e.above)); staged = rw (e.staged, c.staged, b.staged, a.staged) (simp max_assoc); kept = λ x u y. down x (omega arith) (omega arith) (omega arith) ∙ (a.kept x (omega arith) (omega arith) ∙ get_or-set_other w (top + 1) x 0 0 (omega arith)); goes = omega (arith, a.goes, b.goes, c.goes, e.goes); within = e.within; above = omega (arith, e.above); fits = e.fits; room = omega (arith, a.room, b.room, c.room, e.room) }
