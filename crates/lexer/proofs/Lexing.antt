-- The tokens that are written, and what is left of the text.
use Rattle.std.proofs.Common.{◌≡◌, ℕ, ◌+◌, ◌*◌, ◌<◌, ◌≤◌, Bool, true, false, ◌⊎◌, ◌≢◌, List, [], ◌∷◌, ◌++◌, length, get_or, drop, set, Some, None, sym, refl, ap, ◌∙◌, subst, inl, inr, arith}
use Rattle.std.proofs.lemmas.Bool.{cases_lt}
use Rattle.std.proofs.lemmas.List.{drop_all, drop_more, append-nil, append_assoc, length-append, length_push, get_or_push, get_or_append_left, get_or-set_same, get_or-set_other, length-set}
use Rattle.grammar.specs.Tokens.{Token, token, tokens, start, rest_of}
use Rattle.grammar.specs.Grammar.{sign}
use Rattle.lexer.specs.declared.token.Bracket.TheVariants.{Opens, Closes}
use Rattle.lexer.specs.declared.token.Token.{Token as Value}
use Rattle.lexer.specs.declared.cut.State.{State}
use Rattle.lexer.specs.declared.tokens.Span.{Span}
use Rattle.lexer.specs.declared.cut.Cut.{Cut}
use Rattle.lexer.specs.Codes.{code_of, bracket_of, Fits}
use Rattle.lexer.specs.Cuts.{fresh, resting, behind_closed, behind_by, behind, around, Begins, Leaves, Cuts}
use Rattle.lexer.specs.Stored.{TokenAt, TokensAt, tokens_of, tokens_from, code_at, Has}
use Rattle.lexer.specs.Written.{Brackets, none_open, one_open, entry}
use Rattle.lexer.proofs.WithBytes.{big_kind, bracket_bytes, bracket_fits}
use Rattle.lexer.proofs.Same.{code_same}
use Rattle.lexer.proofs.Lex.{tokens_few}
use Rattle.lexer.proofs.Next.{open_quotes}

pub opens_frame : {m v : List ℕ} {hi a hi' : ℕ} {o : List Bool} → Brackets m hi a o → hi ≤ hi' → ((k : ℕ) → k < hi → get_or v k 0 ≡ get_or m k 0) → Brackets v hi' a o
opens_frame none_open l s = none_open
opens_frame {hi = hi} (one_open {a = a} x p q e f b r) l s = one_open x p (omega arith) (s (a + 2) (omega arith) ∙ e) (s a (omega arith) ∙ f) b (opens_frame r (omega arith) (λ k z. s k (omega arith)))

opens_near : {m : List ℕ} {hi a : ℕ} {o : List Bool} → Brackets m hi a o → a ≤ hi
opens_near none_open = omega arith
opens_near (one_open x p q e f b r) = omega arith

-- the innermost bracket is closed
pub close_none : {m : List ℕ} {hi a : ℕ} {o : List Bool} → a ≡ 0 → Brackets m hi a o → (fresh ≡ around o) × Brackets m a 0 (rest_of (rest_of o))
close_none e none_open = (refl, none_open)
close_none e (one_open x p q f g b r) = absurd (omega arith)

pub close_ok : {m : List ℕ} {hi a : ℕ} {o : List Bool} (y : Value) → code_of y ≡ get_or m a 0 → 0 < a → Brackets m hi a o → (behind_closed y ≡ around o) × Brackets m a (get_or m (a + 2) 0) (rest_of (rest_of o))
close_ok y d p none_open = absurd (omega arith)
close_ok {m} {a = a} y d p (one_open {o = o} x _ q f g b r) = (ap behind_closed (code_same y x (d ∙ g)), subst (λ k. Brackets m a k o) (sym f) r)

pub close_err : {A : Type 0} {m : List ℕ} {hi a : ℕ} {o : List Bool} → ((x : Value) → Fits x → code_of x ≢ get_or m a 0) → 0 < a → Brackets m hi a o → A
close_err d p none_open = absurd (omega arith)
close_err d p (one_open x _ q f g b r) = absurd (d x (bracket_fits x b) (sym g))

-- what is written of a text when the lexer stands at a place
pub record Lexing (t m : List ℕ) (at : ℕ) (s : State) (top n : ℕ) : Type 0 where
  pub outer : List Bool
  pub done : List Token
  pub count : length done ≡ n
  pub says : tokens start t ≡ done ++ tokens (resting s outer) (drop at t)
  pub toks : TokensAt t done m
  pub brackets : Brackets m (3 * n + 3) top outer
  pub near : top ≤ 3 * n
  pub few : n ≤ at
  pub within : at ≤ length t

pub begin : (t m : List ℕ) → Lexing t m 0 fresh 0 0
begin t m = record { outer = []; done = []; count = refl; says = refl; toks = λ k z. absurd (omega arith); brackets = none_open; near = omega arith; few = omega arith; within = omega arith }

push : (t : List ℕ) (xs : List Token) (p : Token) (m v : List ℕ) (n : ℕ) → TokensAt t xs m → length xs ≡ n → ((k : ℕ) → k < 3 * n + 3 → get_or v k 0 ≡ get_or m k 0) → TokenAt t p v (3 * n + 3) → TokensAt t (xs ++ (p ∷ [])) v
push t xs p m v n h e s y k z = by (cases_lt k n)
  where
    by : (k < n) ⊎ (n ≤ k) → TokenAt t (get_or (xs ++ (p ∷ [])) k (token false 0 [])) v (3 * k + 3)
    by (inl l) = rw (get_or_append_left xs (p ∷ []) (token false 0 []) k (omega arith), s (3 * k + 3) (omega arith), s (3 * k + 3 + 1) (omega arith), s (3 * k + 3 + 2) (omega arith)) (h k (omega arith))
    by (inr l) = let q : k ≡ n = omega (arith, length-append xs (p ∷ [])) in rw (q, get_or_push xs p (token false 0 []) n e) y

-- the words of an entry and those below it
module _ (m : List ℕ) (i x y z : ℕ) where
  below : (k : ℕ) → k < i → get_or (entry m i x y z) k 0 ≡ get_or m k 0
  below k l = get_or-set_other (set (set m i x) (i + 1) y) (i + 2) k z 0 (omega arith) ∙ (get_or-set_other (set m i x) (i + 1) k y 0 (omega arith) ∙ get_or-set_other m i k x 0 (omega arith))

  at0 : i + 3 ≤ length m → get_or (entry m i x y z) i 0 ≡ x
  at0 l = get_or-set_other (set (set m i x) (i + 1) y) (i + 2) i z 0 (omega arith) ∙ (get_or-set_other (set m i x) (i + 1) i y 0 (omega arith) ∙ get_or-set_same m i x 0 (omega arith))

  at1 : i + 3 ≤ length m → get_or (entry m i x y z) (i + 1) 0 ≡ y
  at1 l = get_or-set_other (set (set m i x) (i + 1) y) (i + 2) (i + 1) z 0 (omega arith) ∙ get_or-set_same (set m i x) (i + 1) y 0 (omega (arith, length-set m i x))

  at2 : i + 3 ≤ length m → get_or (entry m i x y z) (i + 2) 0 ≡ z
  at2 l = get_or-set_same (set (set m i x) (i + 1) y) (i + 2) z 0 (omega (arith, length-set (set m i x) (i + 1) y, length-set m i x))

pushed : (X : List Token) (xs : List Token) (p : Token) (A B : List Token) → X ≡ xs ++ A → A ≡ p ∷ B → X ≡ (xs ++ (p ∷ [])) ++ B
pushed X xs p A B e f = e ∙ (ap (λ z. xs ++ z) f ∙ sym (append_assoc xs (p ∷ []) B))

module _ {t m : List ℕ} {at : ℕ} {s : State} {top n : ℕ} (h : Lexing t m at s top n) {c : Cut} (k : Cuts t at s c) where
  pub step_silent : c.token ≡ None → Lexing t m c.at c.state top n
  step_silent e = record { outer = h.outer; done = h.done; count = h.count; says = h.says ∙ ap (λ z. h.done ++ z) (subst (Leaves t (tokens (resting s h.outer) (drop at t)) c h.outer) e (k.leaves h.outer)); toks = h.toks; brackets = h.brackets; near = h.near; few = omega (arith, k.goes, h.few); within = k.within }

  -- a token is written: the place is free, and the lexer goes on as the cut says
  written : (x : Value) (sp : Span) (third : ℕ) → c.token ≡ Some (x, sp) → Begins t x sp (tokens (resting s h.outer) (drop at t)) (tokens (behind x c.state h.outer) (drop c.at t))
  written x sp third e = subst (Leaves t (tokens (resting s h.outer) (drop at t)) c h.outer) e (k.leaves h.outer)

  pub span_inside : (x : Value) (sp : Span) → c.token ≡ Some (x, sp) → sp.start + sp.len ≤ length t
  span_inside x sp e = (written x sp 0 e).inside

  pub step_plain : (x : Value) (sp : Span) → c.token ≡ Some (x, sp) → bracket_of x ≡ None → 3 * n + 6 ≤ length m → Lexing t (entry m (3 * n + 3) (code_of x) sp.start sp.len) c.at c.state top (n + 1)
  step_plain x sp e b r =
      let w = written x sp sp.len e in
      let i = 3 * n + 3 in
      let v = entry m i (code_of x) sp.start sp.len in
      let a0 = at0 m i (code_of x) sp.start sp.len (omega arith) in
      let a1 = at1 m i (code_of x) sp.start sp.len (omega arith) in
      let a2 = at2 m i (code_of x) sp.start sp.len (omega arith) in
      record { outer = h.outer; done = h.done ++ (w.token ∷ []); count = omega (arith, length_push h.done w.token, h.count); says = pushed _ h.done w.token _ _ h.says (subst (λ z. tokens (resting s h.outer) (drop at t) ≡ w.token ∷ tokens (behind_by z x c.state h.outer) (drop c.at t)) b w.is); toks = push t h.done w.token m v n h.toks h.count (λ j l. below m i (code_of x) sp.start sp.len j l) (a0 ∙ w.code, rw (a1, a2) w.spelled, (omega (arith, a1, w.inside), λ z. omega (arith, a1, a2, w.inside))); brackets = opens_frame h.brackets (omega arith) (λ j l. below m i (code_of x) sp.start sp.len j l); near = omega (arith, h.near); few = omega (arith, h.few, k.goes); within = k.within }

  pub step_open : (x : Value) (sp : Span) → c.token ≡ Some (x, sp) → bracket_of x ≡ Some Opens → 3 * n + 6 ≤ length m → Lexing t (entry m (3 * n + 3) (code_of x) sp.start top) c.at c.state (3 * n + 3) (n + 1)
  step_open x sp e b r =
      let w = written x sp top e in
      let i = 3 * n + 3 in
      let v = entry m i (code_of x) sp.start top in
      let a0 = at0 m i (code_of x) sp.start top (omega arith) in
      let a1 = at1 m i (code_of x) sp.start top (omega arith) in
      record { outer = (behind_closed x).joined ∷ (behind_closed x).quoted ∷ h.outer; done = h.done ++ (w.token ∷ []); count = omega (arith, length_push h.done w.token, h.count); says = pushed _ h.done w.token _ _ h.says (subst (λ z. tokens (resting s h.outer) (drop at t) ≡ w.token ∷ tokens (behind_by z x c.state h.outer) (drop c.at t)) b w.is); toks = push t h.done w.token m v n h.toks h.count (λ j l. below m i (code_of x) sp.start top j l) (a0 ∙ w.code, λ z. big_kind x w.token w.code (bracket_bytes x Opens b) z, (omega (arith, a1, w.inside), λ z. big_kind x w.token w.code (bracket_bytes x Opens b) z)); brackets = one_open x (omega arith) (omega arith) (at2 m i (code_of x) sp.start top (omega arith)) a0 b (opens_frame h.brackets (omega arith) (λ j l. below m i (code_of x) sp.start top j l)); near = omega arith; few = omega (arith, h.few, k.goes); within = k.within }

  pub step_close : (x : Value) (sp : Span) (u : State) (up : ℕ) → c.token ≡ Some (x, sp) → bracket_of x ≡ Some Closes → 3 * n + 6 ≤ length m → ((hi : ℕ) (o : List Bool) → Brackets (entry m (3 * n + 3) (code_of x) sp.start 0) hi top o → (u ≡ around o) × Brackets (entry m (3 * n + 3) (code_of x) sp.start 0) top up (rest_of (rest_of o))) → Lexing t (entry m (3 * n + 3) (code_of x) sp.start 0) c.at u up (n + 1)
  step_close x sp u up e b r q =
      let w = written x sp 0 e in
      let i = 3 * n + 3 in
      let v = entry m i (code_of x) sp.start 0 in
      let a0 = at0 m i (code_of x) sp.start 0 (omega arith) in
      let a1 = at1 m i (code_of x) sp.start 0 (omega arith) in
      let y = q (3 * n + 3) h.outer (opens_frame h.brackets (omega arith) (λ j l. below m i (code_of x) sp.start 0 j l)) in
      record { outer = rest_of (rest_of h.outer); done = h.done ++ (w.token ∷ []); count = omega (arith, length_push h.done w.token, h.count); says = pushed _ h.done w.token _ _ h.says (subst (λ z. tokens (resting s h.outer) (drop at t) ≡ w.token ∷ tokens (resting z (rest_of (rest_of h.outer))) (drop c.at t)) (sym y.0) (subst (λ z. tokens (resting s h.outer) (drop at t) ≡ w.token ∷ tokens (behind_by z x c.state h.outer) (drop c.at t)) b w.is)); toks = push t h.done w.token m v n h.toks h.count (λ j l. below m i (code_of x) sp.start 0 j l) (a0 ∙ w.code, λ z. big_kind x w.token w.code (bracket_bytes x Closes b) z, (omega (arith, a1, w.inside), λ z. big_kind x w.token w.code (bracket_bytes x Closes b) z)); brackets = opens_frame y.1 (omega (arith, h.near)) (λ j l. refl); near = omega (arith, h.near, opens_near y.1); few = omega (arith, h.few, k.goes); within = k.within }

has_all : (t m : List ℕ) (n : ℕ) → n ≡ length (tokens start t) → TokensAt t (tokens start t) m → Has t n m
unfolding tokens_of
has_all t m n e h = record { count = sym e; stored = h }

pub finish : {t m : List ℕ} {at : ℕ} {s : State} {top n : ℕ} → Lexing t m at s top n → length t ≤ at → s.quoted ≡ false → Has t n m
finish {t} {m} {at} {s} {top} {n} h l e =
    let q : tokens start t ≡ h.done = h.says ∙ rw (e, drop_all at t l) (append-nil h.done) in
    has_all t m n (sym (ap length q ∙ h.count)) (subst (λ z. TokensAt t z m) (sym q) h.toks)

pub finish_quoted : {t m : List ℕ} {at : ℕ} {s : State} {top n : ℕ} → Lexing t m at s top n → length t ≤ at → s.quoted ≡ true → 3 * n + 6 ≤ length m → Has t (n + 1) (entry m (3 * n + 3) 45 (length t) 0)
finish_quoted {t} {m} {at} {s} {top} {n} h l e r =
    let q : tokens start t ≡ h.done ++ (sign (34 ∷ []) ∷ []) = h.says ∙ rw (e, drop_all at t l) in
    has_all t _ (n + 1) (omega (arith, ap length q, length_push h.done (sign (34 ∷ [])), h.count)) (subst (λ z. TokensAt t z (entry m (3 * n + 3) 45 (length t) 0)) (sym q) (push t h.done (sign (34 ∷ [])) m _ n h.toks h.count (λ j z. below m (3 * n + 3) 45 (length t) 0 j z) (at0 m (3 * n + 3) 45 (length t) 0 (omega arith) ∙ open_quotes.1, λ x. absurd (omega arith), (omega (arith, at1 m (3 * n + 3) 45 (length t) 0 (omega arith)), λ x. absurd (omega arith)))))

-- at most one token for each byte, and one
pub few_held : {t : List ℕ} {n : ℕ} {m : List ℕ} → Has t n m → n ≤ length t + 1
unfolding tokens_of
few_held {t} h = omega (arith, h.count, tokens_few t)

-- the tokens from one on: that one and those behind it, or none
pub here : {t : List ℕ} {n : ℕ} {m : List ℕ} (i : ℕ) → Has t n m → i < n → tokens_from t i ≡ get_or (tokens_of t) i (token false 0 []) ∷ tokens_from t (i + 1)
here {t} {n} i h l = drop_more (tokens_of t) i (token false 0 []) (omega (arith, h.count))

pub there : {t : List ℕ} {n : ℕ} {m : List ℕ} (i : ℕ) → Has t n m → n ≤ i → tokens_from t i ≡ []
there {t} i h l = drop_all i (tokens_of t) (omega (arith, h.count))

pub code_in : {t : List ℕ} {n : ℕ} {m : List ℕ} (i : ℕ) → Has t n m → i < n → get_or m (3 * i + 3) 0 ≡ code_at (tokens_from t i)
code_in i h l = rw (here i h l) (h.stored i (omega (arith, h.count))).0

pub code_out : {t : List ℕ} {n : ℕ} {m : List ℕ} (i : ℕ) → Has t n m → n ≤ i → 47 ≡ code_at (tokens_from t i)
code_out i h l = rw (there i h l)
