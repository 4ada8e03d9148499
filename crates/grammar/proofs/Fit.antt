-- What the parser finds fits the grammar.
use mathlib.Core.Path.{◌≡◌, refl, ◌∙◌, ap, subst}
use mathlib.Core.Bool.{Bool, true, false, ◌&&◌, not}
use mathlib.Core.List.{List, [], ◌∷◌, ◌++◌}
use mathlib.Core.Option.{Option, some, none}
use Prim.Native.Nat.{ℕ, zero, suc, ◌≤◌, ◌<◌}
use native.Mathlib.Omega.{arith}
use lib.ListN.{length}
use lib.Dec.{eqb, T, eqb→eq}
use Rattle.syntax.specs.Base.{pick, opt, on_some, Name, same, valid_name}
use Rattle.syntax.specs.Tree.{WordPart, Word, Words, Assignments, RedirectKind, Redirects, Command, ElsePart, Arms, Pipeline, AndOr, joined, CommandList, end, next}
use Rattle.syntax.specs.Depth.{part_depth, word_depth, words_depth, assignments_depth, redirects_depth, command_depth, else_depth, arms_depth, pipeline_depth, and_or_depth, list_depth}
use Rattle.grammar.specs.Tokens.{Token, token}
use Rattle.grammar.specs.Grammar.{sign, keyword, PartText, MoreText, WordText, WordsText, AssignmentsText, RedirectsText, CommandText, ElseText, ArmsText, PipelineText, NegatableText, AndOrText, ClosedListText, ListText, literal_x, quoted_x, parameter_x, quoted_parameter_x, substitution_x, quoted_substitution_x, more_none, more_part, word_x, no_words_x, and_word_x, no_assignments_x, assign_x, no_redirects_x, redirect_x, simple_x, assignments_x, group_x, subshell_x, if_x, while_x, for_x, case_x, function_x, fi_x, else_x, elif_x, no_arms_x, blank_arm_x, arm_x, single_x, piped_x, plain_x, negated_x, first_x, and_x, or_x, closed_end_x, closed_blank_x, closed_next_x, end_x, last_x, blank_x, next_x, Separator, semicolon, newline, Terminator, separated, in_background, RedirectSign, sign_input, sign_output, sign_append, sign_here, Split, split_equals, put_before, reserved, listed, first_word_ok}
use Rattle.grammar.specs.Parser.{Parsed, Deeper, Opener, open_if, open_while, open_for, open_case, open_brace, Lookahead, la_end, la_odd, la_part, la_not, la_keyword, la_paren, la_pipe, la_and, la_or, la_newline, la_close_paren, la_double_semicolon, la_opener, la_redirect, la_terminator, lookahead, is_not, is_newline, ends_list, no_word, next_joined, expect, same_flag, same_token, parse_substitution, parse_part_go, parse_part, parse_more_go, parse_word, parse_words_go, after_first, split_ok, assignment_go, assignment_at, parse_assignments_go, redirect_at, parse_redirects_go, first_word_fits, assignments_alone, parse_simple, name_go, parse_name, function_at, parse_function, separator_at, parse_arms_go, parse_opener, parse_command_by, parse_pipeline_go, parse_negatable, joiner_at, parse_and_or_go, parse_and_or, terminator_at, parse_list_go, parse_else, parse_list, level}

pub data Fits {A : Type 0} (Q : List Token → A → Type 0) (ps : List Token) : Parsed A → Type 0 where
  misfit : Fits Q ps none
  fit : {a : A} {r : List Token} (s : List Token) → Q s a → ps ≡ s ++ r → Fits Q ps (some (a, r))

then_fits : {A B : Type 0} {Q : List Token → A → Type 0} {R : List Token → B → Type 0} {ps qs : List Token} {o : Parsed A} (f : (A × List Token) → Parsed B) → Fits Q ps o → ((a : A) (r s : List Token) → Q s a → ps ≡ s ++ r → Fits R qs (f (a, r))) → Fits R qs (on_some o f)
then_fits f misfit k = misfit
then_fits f (fit {a} {r} s q e) k = k a r s q e

pub by_bool : (C : Bool → Type 0) (b : Bool) → (b ≡ true → C true) → (b ≡ false → C false) → C b
by_bool C true f g = f refl
by_bool C false f g = g refl

pick_fits : {A : Type 0} {Q : List Token → A → Type 0} {ps : List Token} {x y : Parsed A} (b : Bool) → (b ≡ true → Fits Q ps x) → (b ≡ false → Fits Q ps y) → Fits Q ps (pick b x y)
pick_fits true f g = f refl
pick_fits false f g = g refl

abbrev pub Lm : Bool → List Token → CommandList → Type 0
Lm true = ListText
Lm false = ClosedListText

-- and lists less than d deep
abbrev pub Ld : Bool → ℕ → List Token → CommandList → Type 0
Ld m d s l = Lm m s l × (list_depth l < d)

abbrev pub Ed : ℕ → List Token → ElsePart → Type 0
Ed d s e = ElseText s e × (else_depth e < d)

abbrev Pd : ℕ → Bool → List Token → WordPart → Type 0
Pd d g s q = PartText g s q × (part_depth q < suc d)

abbrev Md : ℕ → List Token → Word → Type 0
Md d s w = MoreText s w × (word_depth w < suc d)

abbrev Wd : ℕ → List Token → Word → Type 0
Wd d s w = WordText s w × (word_depth w < suc d)

abbrev Wsd : ℕ → List Token → Words → Type 0
Wsd d s w = WordsText s w × (words_depth w < suc d)

abbrev Ssd : ℕ → List Token → Assignments → Type 0
Ssd d s w = AssignmentsText s w × (assignments_depth w < suc d)

abbrev Tsd : ℕ → List Token → Redirects → Type 0
Tsd d s w = RedirectsText s w × (redirects_depth w < suc d)

abbrev Cd : ℕ → List Token → Command → Type 0
Cd d s w = CommandText s w × (command_depth w < suc d)

abbrev Isd : ℕ → List Token → Arms → Type 0
Isd d s w = ArmsText s w × (arms_depth w < suc d)

abbrev Id1 : ℕ → List Token → Pipeline → Type 0
Id1 d s w = PipelineText s w × (pipeline_depth w < suc d)

abbrev Ad : ℕ → List Token → AndOr → Type 0
Ad d s w = AndOrText s w × (and_or_depth w < suc d)

pub record Sound (S : Deeper) (d : ℕ) : Type 0 where
  pub lists_fit : (m : Bool) (ps : List Token) → Fits (Ld m d) ps (S.lists m ps)
  pub elses_fit : (ps : List Token) → Fits (Ed d) ps (S.elses ps)

deep_only1 : (b : List ℕ) (w : Word) → word_depth (put_before b w) ≤ word_depth w
deep_only1 [] w = omega arith
deep_only1 (c ∷ cs) w = omega arith

pub app_assoc : {A : Type 0} (a b c : List A) → (a ++ b) ++ c ≡ a ++ (b ++ c)
app_assoc [] b c = refl
app_assoc (x ∷ a) b c = ap (λ z. x ∷ z) (app_assoc a b c)

-- one known token
data Ate (q : Token) (ps : List Token) : Option (List Token) → Type 0 where
  uneaten : Ate q ps none
  ate : {r : List Token} → ps ≡ q ∷ r → Ate q ps (some r)

pub and_l : (a b : Bool) → T (a && b) → T a
and_l true b t = tt
and_l false b t = t

pub and_r : (a b : Bool) → T (a && b) → T b
and_r true b t = t
and_r false b t = absurd t

pub is_T : (b : Bool) → b ≡ true → T b
is_T true e = tt
is_T false e = subst (λ (c : Bool). T (not c)) e tt

pub T-is : (b : Bool) → T b → b ≡ true
T-is true t = refl
T-is false t = absurd t

pub same_is : (a b : List ℕ) → T (same a b) → a ≡ b
same_is [] [] t = refl
same_is [] (y ∷ ys) t = absurd t
same_is (x ∷ xs) [] t = absurd t
same_is (x ∷ xs) (y ∷ ys) t = rw (eqb→eq x y (and_l (eqb x y) (same xs ys) t), same_is xs ys (and_r (eqb x y) (same xs ys) t))

same1_is : (a b : Bool) → T (same_flag a b) → a ≡ b
same1_is true true t = refl
same1_is true false t = absurd t
same1_is false true t = absurd t
same1_is false false t = refl

same_token_is : (p q : Token) → T (same_token p q) → p ≡ q
same_token_is p q t = λ i. record { joined = same1_is p.joined q.joined (and_l _ _ t) i; kind = eqb→eq p.kind q.kind (and_l _ _ (and_r (same_flag p.joined q.joined) _ t)) i; bytes = same_is p.bytes q.bytes (and_r (eqb p.kind q.kind) _ (and_r (same_flag p.joined q.joined) _ t)) i }

then_eats : {B : Type 0} {q : Token} {ps qs : List Token} {R : List Token → B → Type 0} {o : Option (List Token)} (f : List Token → Parsed B) → Ate q ps o → ((r : List Token) → ps ≡ q ∷ r → Fits R qs (f r)) → Fits R qs (on_some o f)
then_eats f uneaten k = misfit
then_eats f (ate {r} e) k = k r e

eat_ate : (q : Token) (ps : List Token) → Ate q ps (expect q ps)
eat_ate q [] = uneaten
eat_ate q (p ∷ r) = by_bool (λ b. Ate q (p ∷ r) (pick b (some r) none)) (same_token p q) (λ e. ate (ap (λ z. z ∷ r) (same_token_is p q (is_T _ e)))) (λ e. uneaten)

run_fits : {S : Deeper} {d : ℕ} → Sound S d → (g : Bool) (b : List ℕ) (r : List Token) → Fits (Pd d g) (token g 5 b ∷ r) (parse_substitution S false b r)
run_fits {S} H g [] r = then_fits _ (H.lists_fit true r) λ l r1 s q e. then_eats _ (eat_ate (sign (41 ∷ [])) r1) λ r2 e2. fit (token g 5 [] ∷ (s ++ (sign (41 ∷ []) ∷ []))) (substitution_x q.0, omega arith) (simp (e, e2, app_assoc))
run_fits H g (c ∷ cs) r = misfit

qrun_fits : {S : Deeper} {d : ℕ} → Sound S d → (g : Bool) (b : List ℕ) (r : List Token) → Fits (Pd d g) (token g 6 b ∷ r) (parse_substitution S true b r)
qrun_fits {S} H g [] r = then_fits _ (H.lists_fit true r) λ l r1 s q e. then_eats _ (eat_ate (sign (41 ∷ [])) r1) λ r2 e2. fit (token g 6 [] ∷ (s ++ (sign (41 ∷ []) ∷ []))) (quoted_substitution_x q.0, omega arith) (simp (e, e2, app_assoc))
qrun_fits H g (c ∷ cs) r = misfit

part_go_fits : {S : Deeper} {d : ℕ} → Sound S d → (g : Bool) (t : ℕ) (b : List ℕ) (r : List Token) → Fits (Pd d g) (token g t b ∷ r) (parse_part_go S t b r)
part_go_fits H g zero b r = fit (token g 0 b ∷ []) (literal_x, omega arith) refl
part_go_fits H g (suc zero) b r = fit (token g 1 b ∷ []) (quoted_x, omega arith) refl
part_go_fits H g (suc (suc zero)) b r = fit (token g 2 b ∷ []) (parameter_x, omega arith) refl
part_go_fits H g (suc (suc (suc zero))) b r = fit (token g 3 b ∷ []) (quoted_parameter_x, omega arith) refl
part_go_fits H g (suc (suc (suc (suc zero)))) b r = misfit
part_go_fits H g (suc (suc (suc (suc (suc zero))))) b r = run_fits H g b r
part_go_fits H g (suc (suc (suc (suc (suc (suc zero)))))) b r = qrun_fits H g b r
part_go_fits H g (suc (suc (suc (suc (suc (suc (suc t))))))) b r = misfit

part_fits : {S : Deeper} {d : ℕ} → Sound S d → (ps : List Token) → Fits (Pd d (next_joined ps)) ps (parse_part S ps)
part_fits H [] = misfit
part_fits H (p ∷ r) = part_go_fits H p.joined p.kind p.bytes r

part_fits_as : {S : Deeper} {d : ℕ} → Sound S d → (ps : List Token) {g : Bool} → next_joined ps ≡ g → Fits (Pd d g) ps (parse_part S ps)
part_fits_as {S} H ps e = rw e at (part_fits H ps)

more_fits : {S : Deeper} {d : ℕ} → Sound S d → (n : ℕ) (ps : List Token) → Fits (Md d) ps (parse_more_go S n ps)
more_fits H zero ps = misfit
more_fits {S} H (suc n) ps = pick_fits (next_joined ps) (λ g. then_fits _ (part_fits_as H ps g) λ a r s q e. then_fits _ (more_fits H n r) λ w r1 t m e1. fit (s ++ t) (more_part q.0 m.0, omega arith) (simp (e, e1, app_assoc))) (λ g. fit [] (more_none, omega arith) refl)

word_fits : {S : Deeper} {d : ℕ} → Sound S d → (ps : List Token) → Fits (Wd d) ps (parse_word S ps)
word_fits {S} H ps = pick_fits (next_joined ps) (λ g. misfit) (λ g. then_fits _ (part_fits_as H ps g) λ a r s q e. then_fits _ (more_fits H (suc (length r)) r) λ w r1 t m e1. fit (s ++ t) (word_x q.0 m.0, omega arith) (simp (e, e1, app_assoc)))

words_fits : {S : Deeper} {d : ℕ} → Sound S d → (n : ℕ) (ps : List Token) → Fits (Wsd d) ps (parse_words_go S n ps)
words_fits H zero ps = misfit
words_fits {S} H (suc n) ps = pick_fits (no_word (lookahead ps)) (λ g. fit [] (no_words_x, omega arith) refl) (λ g. then_fits _ (word_fits H ps) λ a r s q e. then_fits _ (words_fits H n r) λ w r1 t m e1. fit (s ++ t) (and_word_x q.0 m.0, omega arith) (simp (e, e1, app_assoc)))

-- where nothing was found, something else is tried
or_fits : {A B : Type 0} {Q : List Token → A → Type 0} {R : List Token → B → Type 0} {ps qs : List Token} {o : Parsed A} {d : Parsed B} (f : (A × List Token) → Parsed B) → Fits Q ps o → Fits R qs d → ((a : A) (r s : List Token) → Q s a → ps ≡ s ++ r → Fits R qs (f (a, r))) → Fits R qs (opt o d f)
or_fits f misfit z k = z
or_fits f (fit {a} {r} s q e) z k = k a r s q e

or_eats : {B : Type 0} {q : Token} {ps qs : List Token} {R : List Token → B → Type 0} {o : Option (List Token)} {d : Parsed B} (f : List Token → Parsed B) → Ate q ps o → Fits R qs d → ((r : List Token) → ps ≡ q ∷ r → Fits R qs (f r)) → Fits R qs (opt o d f)
or_eats f uneaten z k = z
or_eats f (ate {r} e) z k = k r e

-- name = word
data SetFits (ps : List Token) : Option Split → Type 0 where
  no_set : SetFits ps none
  is_set : (b : List ℕ) (c : Split) → ps ≡ token false 0 b ∷ after_first ps → split_equals b [] ≡ some c → T (valid_name c.before) → SetFits ps (some c)

pick_set : (b : List ℕ) (r : List Token) (c : Split) (k : Bool) → split_equals b [] ≡ some c → valid_name c.before ≡ k → SetFits (token false 0 b ∷ r) (pick k (some c) none)
pick_set b r c true e q = is_set b c refl e (is_T _ q)
pick_set b r c false e q = no_set

cut_set : (b : List ℕ) (r : List Token) (o : Option Split) → split_equals b [] ≡ o → SetFits (token false 0 b ∷ r) (split_ok o)
cut_set b r none e = no_set
cut_set b r (some c) e = pick_set b r c (valid_name c.before) e refl

go_set : (g : Bool) (t : ℕ) (b : List ℕ) (r : List Token) → SetFits (token g t b ∷ r) (assignment_go g t b)
go_set true t b r = no_set
go_set false zero b r = cut_set b r (split_equals b []) refl
go_set false (suc t) b r = no_set

set_fits : (ps : List Token) → SetFits ps (assignment_at ps)
set_fits [] = no_set
set_fits (p ∷ r) = go_set p.joined p.kind p.bytes r

or_set : {B : Type 0} {ps qs : List Token} {R : List Token → B → Type 0} {o : Option Split} {d : Parsed B} (f : Split → Parsed B) → SetFits ps o → Fits R qs d → ((b : List ℕ) (c : Split) → ps ≡ token false 0 b ∷ after_first ps → split_equals b [] ≡ some c → T (valid_name c.before) → Fits R qs (f c)) → Fits R qs (opt o d f)
or_set f no_set z k = z
or_set f (is_set b c e q t) z k = k b c e q t

sets_fits : {S : Deeper} {d : ℕ} → Sound S d → (n : ℕ) (ps : List Token) → Fits (Ssd d) ps (parse_assignments_go S n ps)
sets_fits H zero ps = misfit
sets_fits {S} H (suc n) ps = or_set _ (set_fits ps) (fit [] (no_assignments_x, omega arith) refl) λ b c e q t. then_fits _ (more_fits H (suc (length (after_first ps))) (after_first ps)) λ w r s m e1. then_fits _ (sets_fits H n r) λ ss r1 u h e2. fit (token false 0 b ∷ (s ++ u)) (assign_x c q t m.0 h.0, omega (arith, deep_only1 c.behind w)) (e ∙ simp (e1, e2, app_assoc))

-- steps
abbrev IsArrow : List Token → RedirectKind → Type 0
IsArrow s k = (p : Token) × (s ≡ p ∷ []) × RedirectSign p k

arrow_fits : (ps : List Token) → Fits IsArrow ps (redirect_at ps)
arrow_fits ps = or_eats _ (eat_ate _ ps) (or_eats _ (eat_ate _ ps) (or_eats _ (eat_ate _ ps) (then_eats _ (eat_ate _ ps) λ r e. fit _ (_, refl, sign_here) e) λ r e. fit _ (_, refl, sign_append) e) λ r e. fit _ (_, refl, sign_output) e) λ r e. fit _ (_, refl, sign_input) e

turns_fits : {S : Deeper} {d : ℕ} → Sound S d → (n : ℕ) (ps : List Token) → Fits (Tsd d) ps (parse_redirects_go S n ps)
turns_fits H zero ps = misfit
turns_fits {S} H (suc n) ps = or_fits _ (arrow_fits ps) (fit [] (no_redirects_x, omega arith) refl) λ k r s q e. then_fits _ (word_fits H r) λ w r1 u h e1. then_fits _ (turns_fits H n r1) λ ts r2 v h2 e2. fit (q.0 ∷ (u ++ v)) (redirect_x q.2 h.0 h2.0, omega arith) (simp (e, q.1, e1, e2, app_assoc))

-- the first word
pub first_none : (p : Token) (t : List Token) → eqb p.kind 0 ≡ false → first_word_ok (p ∷ t) ≡ true
first_none p [] e = rw e
first_none p (q ∷ t) e = rw e

pub first_is : {v : List Token} {w : Word} → WordText v w → first_word_ok v ≡ first_word_fits w
first_is (word_x literal_x more_none) = refl
first_is (word_x literal_x (more_part literal_x m)) = refl
first_is (word_x literal_x (more_part quoted_x m)) = refl
first_is (word_x literal_x (more_part parameter_x m)) = refl
first_is (word_x literal_x (more_part quoted_parameter_x m)) = refl
first_is (word_x literal_x (more_part (substitution_x l) m)) = refl
first_is (word_x literal_x (more_part (quoted_substitution_x l) m)) = refl
first_is (word_x {t = t} (quoted_x {b = b}) m) = first_none (token false 1 b) t refl
first_is (word_x {t = t} (parameter_x {b = b}) m) = first_none (token false 2 b) t refl
first_is (word_x {t = t} (quoted_parameter_x {b = b}) m) = first_none (token false 3 b) t refl
first_is (word_x {t = t} (substitution_x {s = s} l) m) = first_none (token false 5 []) ((s ++ (sign (41 ∷ []) ∷ [])) ++ t) refl
first_is (word_x {t = t} (quoted_substitution_x {s = s} l) m) = first_none (token false 6 []) ((s ++ (sign (41 ∷ []) ∷ [])) ++ t) refl

only_fits : {d : ℕ} {s ps : List Token} (r : List Token) {ss : Assignments} → AssignmentsText s ss → assignments_depth ss < suc d → ps ≡ s ++ r → Fits (Cd d) ps (assignments_alone ss r)
only_fits r no_assignments_x b e = misfit
only_fits r (assign_x c q t m h) b e = fit _ (assignments_x c q t m h, omega arith) e

simple_fits : {S : Deeper} {d : ℕ} → Sound S d → (ps : List Token) → Fits (Cd d) ps (parse_simple S ps)
simple_fits {S} H ps = then_fits _ (sets_fits H (suc (length ps)) ps) λ ss r s h e. pick_fits (no_word (lookahead r)) (λ g. only_fits r h.0 h.1 e) λ g. then_fits _ (word_fits H r) λ w r1 v h1 e1. pick_fits (first_word_fits w) (λ k. then_fits _ (words_fits H (suc (length r1)) r1) λ ws r2 t h2 e2. then_fits _ (turns_fits H (suc (length r2)) r2) λ ts r3 u h3 e3. fit (s ++ (v ++ (t ++ u))) (simple_x h.0 h1.0 (is_T _ (first_is h1.0 ∙ k)) h2.0 h3.0, omega arith) (simp (e, e1, e2, e3, app_assoc))) λ k. misfit

abbrev IsVar : List Token → Name → Type 0
IsVar s x = (s ≡ keyword x ∷ []) × T (valid_name x)

var_go_fits : (g : Bool) (t : ℕ) (b : List ℕ) (r : List Token) → Fits IsVar (token g t b ∷ r) (name_go g t b r)
var_go_fits true t b r = misfit
var_go_fits false zero b r = pick_fits _ (λ e. fit _ (refl, is_T _ e) refl) λ e. misfit
var_go_fits false (suc t) b r = misfit

var_fits : (ps : List Token) → Fits IsVar ps (parse_name ps)
var_fits [] = misfit
var_fits (p ∷ r) = var_go_fits p.joined p.kind p.bytes r

both : (a b : Bool) → T a → b ≡ false → T (a && not b)
both true b t e = rw e tt
both false b t e = t

fun_fits : {S : Deeper} {d : ℕ} → Sound S d → (ps : List Token) → Fits (Cd d) ps (parse_function S ps)
fun_fits {S} H ps = then_fits _ (var_fits ps) λ x r s q e. pick_fits (listed x reserved) (λ k. misfit) λ k. then_eats _ (eat_ate _ r) λ r1 e1. then_eats _ (eat_ate _ r1) λ r2 e2. then_eats _ (eat_ate _ r2) λ r3 e3. then_fits _ (H.lists_fit false r3) λ l r4 u h e4. then_eats _ (eat_ate _ r4) λ r5 e5. fit _ (function_x (both _ _ q.1 k) h.0, omega arith) (simp (e, q.0, e1, e2, e3, e4, e5, app_assoc))

data SepFits (ps : List Token) : Option (List Token) → Type 0 where
  no_sep : SepFits ps none
  is_sep : {r : List Token} (p : Token) → Separator p → ps ≡ p ∷ r → SepFits ps (some r)

sep_of : {ps : List Token} {o d : Option (List Token)} → Ate (sign (59 ∷ [])) ps o → Ate (sign (10 ∷ [])) ps d → SepFits ps (opt o d some)
sep_of (ate e) h = is_sep _ semicolon e
sep_of uneaten uneaten = no_sep
sep_of uneaten (ate e) = is_sep _ newline e

sep_fits : (ps : List Token) → SepFits ps (separator_at ps)
sep_fits ps = sep_of (eat_ate _ ps) (eat_ate _ ps)

then_sep : {B : Type 0} {ps qs : List Token} {R : List Token → B → Type 0} {o : Option (List Token)} (f : List Token → Parsed B) → SepFits ps o → ((p : Token) (r : List Token) → Separator p → ps ≡ p ∷ r → Fits R qs (f r)) → Fits R qs (on_some o f)
then_sep f no_sep k = misfit
then_sep f (is_sep {r} p h e) k = k p r h e

pre_fits : {A : Type 0} {Q R : List Token → A → Type 0} {ps r : List Token} {q : Token} {o : Parsed A} → ((s : List Token) (a : A) → Q s a → R (q ∷ s) a) → ps ≡ q ∷ r → Fits Q r o → Fits R ps o
pre_fits k e misfit = misfit
pre_fits {q} k e (fit {a} s h e1) = fit (q ∷ s) (k s a h) (e ∙ ap (λ z. q ∷ z) e1)

items_fits : {S : Deeper} {d : ℕ} → Sound S d → (n : ℕ) (ps : List Token) → Fits (Isd d) ps (parse_arms_go S n ps)
items_fits H zero ps = misfit
items_fits {S} H (suc n) ps = or_eats _ (eat_ate _ ps) (or_eats _ (eat_ate _ ps) (fit [] (no_arms_x, omega arith) refl) λ r e. then_fits _ (word_fits H r) λ w r1 s h e1. then_sep _ (sep_fits r1) λ p r2 q e2. then_fits _ (H.lists_fit true r2) λ l r3 t h3 e3. then_eats _ (eat_ate _ r3) λ r4 e4. then_fits _ (items_fits H n r4) λ is r5 u h5 e5. fit _ (arm_x h.0 q h3.0 h5.0, omega arith) (simp (e, e1, e2, e3, e4, e5, app_assoc))) λ r e. pre_fits (λ s a h. (blank_arm_x h.0, h.1)) e (items_fits H n r)

op_fits : {S : Deeper} {d : ℕ} → Sound S d → (o : Opener) (ps : List Token) → Fits (Cd d) ps (parse_opener S o ps)
op_fits {S} H open_if ps = then_eats _ (eat_ate _ ps) λ r e. then_fits _ (H.lists_fit false r) λ a r1 s h e1. then_eats _ (eat_ate _ r1) λ r2 e2. then_fits _ (H.lists_fit false r2) λ b r3 t h1 e3. then_fits _ (H.elses_fit r3) λ c r4 u h2 e4. then_fits _ (turns_fits H (suc (length r4)) r4) λ ts r5 v h3 e5. fit _ (if_x h.0 h1.0 h2.0 h3.0, omega arith) (simp (e, e1, e2, e3, e4, e5, app_assoc))
op_fits {S} H open_while ps = then_eats _ (eat_ate _ ps) λ r e. then_fits _ (H.lists_fit false r) λ a r1 s h e1. then_eats _ (eat_ate _ r1) λ r2 e2. then_fits _ (H.lists_fit false r2) λ b r3 t h1 e3. then_eats _ (eat_ate _ r3) λ r4 e4. then_fits _ (turns_fits H (suc (length r4)) r4) λ ts r5 v h3 e5. fit _ (while_x h.0 h1.0 h3.0, omega arith) (simp (e, e1, e2, e3, e4, e5, app_assoc))
op_fits {S} H open_for ps = then_eats _ (eat_ate _ ps) λ r e. then_fits _ (var_fits r) λ x r1 s q e1. then_eats _ (eat_ate _ r1) λ r2 e2. then_fits _ (words_fits H (suc (length r2)) r2) λ ws r3 t h1 e3. then_sep _ (sep_fits r3) λ p r4 k e4. then_eats _ (eat_ate _ r4) λ r5 e5. then_fits _ (H.lists_fit false r5) λ l r6 u h6 e6. then_eats _ (eat_ate _ r6) λ r7 e7. then_fits _ (turns_fits H (suc (length r7)) r7) λ ts r8 v h8 e8. fit _ (for_x q.1 h1.0 k h6.0 h8.0, omega arith) (simp (e, e1, q.0, e2, e3, e4, e5, e6, e7, e8, app_assoc))
op_fits {S} H open_case ps = then_eats _ (eat_ate _ ps) λ r e. then_fits _ (word_fits H r) λ w r1 s h e1. then_eats _ (eat_ate _ r1) λ r2 e2. then_fits _ (items_fits H (suc (length r2)) r2) λ is r3 t h1 e3. then_eats _ (eat_ate _ r3) λ r4 e4. then_fits _ (turns_fits H (suc (length r4)) r4) λ ts r5 v h3 e5. fit _ (case_x h.0 h1.0 h3.0, omega arith) (simp (e, e1, e2, e3, e4, e5, app_assoc))
op_fits {S} H open_brace ps = then_eats _ (eat_ate _ ps) λ r e. then_fits _ (H.lists_fit false r) λ a r1 s h e1. then_eats _ (eat_ate _ r1) λ r2 e2. then_fits _ (turns_fits H (suc (length r2)) r2) λ ts r3 v h3 e3. fit _ (group_x h.0 h3.0, omega arith) (simp (e, e1, e2, e3, app_assoc))

cmd_by_fits : {S : Deeper} {d : ℕ} → Sound S d → (t : Lookahead) (ps : List Token) → Fits (Cd d) ps (parse_command_by S t ps)
cmd_by_fits H la_end ps = misfit
cmd_by_fits H la_odd ps = misfit
cmd_by_fits H la_part ps = pick_fits (function_at ps) (λ e. fun_fits H ps) (λ e. simple_fits H ps)
cmd_by_fits H la_not ps = misfit
cmd_by_fits H la_keyword ps = misfit
cmd_by_fits {S} H la_paren ps = then_eats _ (eat_ate _ ps) λ r e. then_fits _ (H.lists_fit true r) λ a r1 s h e1. then_eats _ (eat_ate _ r1) λ r2 e2. then_fits _ (turns_fits H (suc (length r2)) r2) λ ts r3 v h3 e3. fit _ (subshell_x h.0 h3.0, omega arith) (simp (e, e1, e2, e3, app_assoc))
cmd_by_fits H la_pipe ps = misfit
cmd_by_fits H la_and ps = misfit
cmd_by_fits H la_or ps = misfit
cmd_by_fits H la_newline ps = misfit
cmd_by_fits H la_close_paren ps = misfit
cmd_by_fits H la_double_semicolon ps = misfit
cmd_by_fits H (la_opener o) ps = op_fits H o ps
cmd_by_fits H (la_redirect k) ps = misfit
cmd_by_fits H (la_terminator b) ps = misfit

pipe_fits : {S : Deeper} {d : ℕ} → Sound S d → (n : ℕ) (ps : List Token) → Fits (Id1 d) ps (parse_pipeline_go S n ps)
pipe_fits H zero ps = misfit
pipe_fits {S} H (suc n) ps = then_fits _ (cmd_by_fits H (lookahead ps) ps) λ c r s h e. or_eats _ (eat_ate _ r) (fit s (single_x h.0, h.1) e) λ r1 e1. then_fits _ (pipe_fits H n r1) λ p r2 t h2 e2. fit _ (piped_x h.0 h2.0, omega arith) (simp (e, e1, e2, app_assoc))

abbrev Nx2 : ℕ → List Token → (Bool × Pipeline) → Type 0
Nx2 d s x = NegatableText s x.0 x.1 × (pipeline_depth x.1 < suc d)

nots_fits : {S : Deeper} {d : ℕ} → Sound S d → (ps : List Token) → Fits (Nx2 d) ps (parse_negatable S ps)
nots_fits {S} H ps = pick_fits (is_not (lookahead ps)) (λ k. then_eats _ (eat_ate _ ps) λ r e. then_fits _ (pipe_fits H (suc (length r)) r) λ p r1 s h e1. fit _ (negated_x h.0, h.1) (simp (e, e1))) λ k. then_fits _ (pipe_fits H (suc (length ps)) ps) λ p r1 s h e1. fit _ (plain_x h.0, h.1) e1

abbrev IsJoin : List Token → Bool → Type 0
IsJoin s b = s ≡ pick b (sign (38 ∷ 38 ∷ [])) (sign (124 ∷ 124 ∷ [])) ∷ []

join_fits : (ps : List Token) → Fits IsJoin ps (joiner_at ps)
join_fits ps = or_eats _ (eat_ate _ ps) (then_eats _ (eat_ate _ ps) λ r e. fit _ refl e) λ r e. fit _ refl e

join_x : {s t : List Token} {a : AndOr} {n : Bool} {p : Pipeline} (b : Bool) → AndOrText s a → NegatableText t n p → AndOrText (s ++ (pick b (sign (38 ∷ 38 ∷ [])) (sign (124 ∷ 124 ∷ [])) ∷ t)) (joined a b n p)
join_x true h k = and_x h k
join_x false h k = or_x h k

ands_go_fits : {S : Deeper} {d : ℕ} → Sound S d → (n : ℕ) (a : AndOr) (qs s ps : List Token) → Ad d s a → qs ≡ s ++ ps → Fits (Ad d) qs (parse_and_or_go S n a ps)
ands_go_fits H zero a qs s ps h e = misfit
ands_go_fits {S} H (suc n) a qs s ps h e = or_fits _ (join_fits ps) (fit s h e) λ b r t q e1. then_fits _ (nots_fits H r) λ y r1 u h2 e2. ands_go_fits H n _ qs _ r1 (join_x b h.0 h2.0, omega arith) (simp (e, e1, q, e2, app_assoc))

ands_fits : {S : Deeper} {d : ℕ} → Sound S d → (ps : List Token) → Fits (Ad d) ps (parse_and_or S ps)
ands_fits {S} H ps = then_fits _ (nots_fits H ps) λ y r s h e. ands_go_fits H (suc (length r)) _ ps s r (first_x h.0, h.1) e

abbrev IsEnds : List Token → Bool → Type 0
IsEnds s b = (p : Token) × (s ≡ p ∷ []) × Terminator p b

ends_fits : (ps : List Token) → Fits IsEnds ps (terminator_at ps)
ends_fits ps = or_eats _ (eat_ate _ ps) (or_eats _ (eat_ate _ ps) (then_eats _ (eat_ate _ ps) λ r e. fit _ (_, refl, in_background) e) λ r e. fit _ (_, refl, separated newline) e) λ r e. fit _ (_, refl, separated semicolon) e

no_m : (m : Bool) → Lm m [] end
no_m true = end_x
no_m false = closed_end_x

blank_m : (m : Bool) (t : List Token) (l : CommandList) → Lm m t l → Lm m (sign (10 ∷ []) ∷ t) l
blank_m true t l h = blank_x h
blank_m false t l h = closed_blank_x h

a_m : (m : Bool) {p : Token} {b : Bool} {s : List Token} {a : AndOr} (t : List Token) (l : CommandList) → AndOrText s a → Terminator p b → Lm m t l → Lm m (s ++ (p ∷ t)) (next a b l)
a_m true t l h k q = next_x h k q
a_m false t l h k q = closed_next_x h k q

last_m : {d : ℕ} (m : Bool) {s ps : List Token} (r : List Token) {a : AndOr} → Ad d s a → ps ≡ s ++ r → Fits (Ld m (suc d)) ps (pick m (some (next a false end, r)) none)
last_m true r h e = fit _ (last_x h.0, omega arith) e
last_m false r h e = misfit

list_fits : {S : Deeper} {d : ℕ} → Sound S d → (m : Bool) (n : ℕ) (ps : List Token) → Fits (Ld m (suc d)) ps (parse_list_go S m n ps)
list_fits H m zero ps = misfit
list_fits {S} H m (suc n) ps = pick_fits (ends_list (lookahead ps)) (λ k. fit [] (no_m m, omega arith) refl) λ k. pick_fits (is_newline (lookahead ps)) (λ k1. then_eats _ (eat_ate _ ps) λ r e. pre_fits (λ s a h. (blank_m m s a h.0, h.1)) e (list_fits H m n r)) λ k1. then_fits _ (ands_fits H ps) λ a r s h e. or_fits _ (ends_fits r) (last_m m r h e) λ b r1 t q e1. then_fits _ (list_fits H m n r1) λ l r2 u h2 e2. fit (s ++ (q.0 ∷ u)) (a_m m u l h.0 q.2 h2.0, omega arith) (simp (e, e1, q.1, e2, app_assoc))

else_fits : {S : Deeper} {d : ℕ} → Sound S d → (ps : List Token) → Fits (Ed (suc d)) ps (parse_else S (parse_list S false) ps)
else_fits {S} H ps = or_eats _ (eat_ate _ ps) (or_eats _ (eat_ate _ ps) (then_eats _ (eat_ate _ ps) λ r e. then_fits _ (H.lists_fit false r) λ a r1 s h e1. then_eats _ (eat_ate _ r1) λ r2 e2. then_fits _ (H.lists_fit false r2) λ b r3 t h1 e3. then_fits _ (H.elses_fit r3) λ c r4 u h2 e4. fit _ (elif_x h.0 h1.0 h2.0, omega arith) (simp (e, e1, e2, e3, e4, app_assoc))) λ r e. then_fits _ (list_fits H false (suc (length r)) r) λ a r1 s h e1. then_eats _ (eat_ate _ r1) λ r2 e2. fit _ (else_x h.0, h.1) (simp (e, e1, e2, app_assoc))) λ r e. fit _ (fi_x, omega arith) e

pub level_sound : (d : ℕ) → Sound (level d) d
unfolding level
level_sound zero = record { lists_fit = λ m ps. misfit; elses_fit = λ ps. misfit }
level_sound (suc d) = record { lists_fit = λ m ps. list_fits (level_sound d) m (suc (length ps)) ps; elses_fit = else_fits (level_sound d) }
