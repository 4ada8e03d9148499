-- What the grammar has, the parser finds.
use mathlib.Core.Path.{◌≡◌, refl, sym, ◌∙◌, ap, subst}
use mathlib.Core.Bool.{Bool, true, false, ◌&&◌, not}
use mathlib.Core.List.{List, [], ◌∷◌, ◌++◌}
use mathlib.Core.Option.{Option, some, none}
use Prim.Native.Nat.{ℕ, zero, suc, ◌+◌, ◌≤◌, ◌<◌}
use native.Mathlib.Omega.{arith}
use lib.ListN.{length}
use lib.Dec.{leb, T, T_not, leb→le}
use Rattle.syntax.specs.Base.{pick, opt, Name, same, valid_name}
use Rattle.syntax.specs.Tree.{WordPart, Word, Words, and_word, Assignments, RedirectKind, Redirects, Command, simple, ElsePart, Arms, Pipeline, AndOr, first, joined, CommandList}
use Rattle.syntax.specs.Depth.{part_depth, word_depth, words_depth, assignments_depth, redirects_depth, command_depth, else_depth, arms_depth, pipeline_depth, and_or_depth, list_depth}
use Rattle.grammar.specs.Tokens.{Token, token}
use Rattle.grammar.specs.Grammar.{Parses, sign, keyword, PartText, MoreText, WordText, WordsText, AssignmentsText, RedirectsText, CommandText, ElseText, ArmsText, PipelineText, NegatableText, AndOrText, ClosedListText, ListText, literal_x, quoted_x, parameter_x, quoted_parameter_x, substitution_x, quoted_substitution_x, more_none, more_part, word_x, no_words_x, and_word_x, no_assignments_x, assign_x, no_redirects_x, redirect_x, simple_x, assignments_x, group_x, subshell_x, if_x, while_x, for_x, case_x, function_x, fi_x, else_x, elif_x, no_arms_x, blank_arm_x, arm_x, single_x, piped_x, plain_x, negated_x, first_x, and_x, or_x, closed_end_x, closed_blank_x, closed_next_x, end_x, last_x, blank_x, next_x, Separator, semicolon, newline, Terminator, separated, in_background, RedirectSign, sign_input, sign_output, sign_append, sign_here, Split, split_equals, put_before, reserved, listed, bare, first_word_ok, kw_then, kw_fi, kw_do, kw_done, kw_in, kw_esac, kw_close}
use Rattle.grammar.specs.Parser.{Deeper, Opener, open_if, open_while, open_for, open_case, open_brace, Lookahead, la_odd, la_part, la_not, la_keyword, la_paren, la_opener, lookahead, is_paren, is_not, is_newline, ends_list, Entry, lookahead_of, look_up, keyword_table, no_word, next_joined, expect, parse_part, parse_more_go, parse_words, parse_assignments, parse_redirects, parse_arms, parse_word, parse_words_go, split_ok, assignment_at, parse_assignments_go, redirect_at, parse_redirects_go, parse_simple, function_at, separator_at, parse_arms_go, parse_command, parse_pipeline_go, parse_negatable, joiner_at, parse_and_or_go, parse_and_or, terminator_at, parse_list_go, parse_else, parse_list, level, whole, parse}
use Rattle.grammar.proofs.Fit.{app_assoc, and_l, and_r, is_T, T-is, same_is, by_bool, first_is}

-- what may stand behind a list that need not end, a list of ended commands
pub data FolL : List Token → Type 0 where
  l_end : FolL []
  l_shut : {r : List Token} → FolL (sign (41 ∷ []) ∷ r)
  l_close : {r : List Token} → FolL (sign (59 ∷ 59 ∷ []) ∷ r)

pub data FolK : List Token → Type 0 where
  k_clk : {x : Name} {r : List Token} → look_up x keyword_table la_part ≡ la_keyword → next_joined r ≡ false → FolK (keyword x ∷ r)

-- behind commands with && and ||; behind one of these; behind a command
pub data FolA : List Token → Type 0 where
  a_in : {r : List Token} → FolL r → FolA r
  a_ends : {p : Token} {b : Bool} {r : List Token} → Terminator p b → FolA (p ∷ r)

pub data FolI : List Token → Type 0 where
  i_in : {r : List Token} → FolA r → FolI r
  i_and : {r : List Token} → FolI (sign (38 ∷ 38 ∷ []) ∷ r)
  i_or : {r : List Token} → FolI (sign (124 ∷ 124 ∷ []) ∷ r)

pub data Fol : List Token → Type 0 where
  c_in : {r : List Token} → FolI r → Fol r
  c_bar : {r : List Token} → Fol (sign (124 ∷ []) ∷ r)

pub record Complete (S : Deeper) (d : ℕ) : Type 0 where
  pub ls_in : {s : List Token} {l : CommandList} → ClosedListText s l → list_depth l < d → (r : List Token) → FolK r → S.lists false (s ++ r) ≡ some (l, r)
  pub lx_in : {s : List Token} {l : CommandList} → ListText s l → list_depth l < d → (r : List Token) → FolL r → S.lists true (s ++ r) ≡ some (l, r)
  pub else_in : {s : List Token} {l : ElsePart} → ElseText s l → else_depth l < d → (r : List Token) → next_joined r ≡ false → S.elses (s ++ r) ≡ some (l, r)

pub length_app : (s t : List Token) → length (s ++ t) ≡ length s + length t
length_app [] t = omega arith
length_app (x ∷ s) t = omega (arith, length_app s t)

glued_in : {g : Bool} {s : List Token} {q : WordPart} → PartText g s q → (r : List Token) → next_joined (s ++ r) ≡ g
glued_in literal_x r = refl
glued_in quoted_x r = refl
glued_in parameter_x r = refl
glued_in quoted_parameter_x r = refl
glued_in (substitution_x h) r = refl
glued_in (quoted_substitution_x h) r = refl

some_in : {g : Bool} {s : List Token} {q : WordPart} → PartText g s q → 0 < length s
some_in literal_x = omega arith
some_in quoted_x = omega arith
some_in parameter_x = omega arith
some_in quoted_parameter_x = omega arith
some_in (substitution_x h) = omega arith
some_in (quoted_substitution_x h) = omega arith

-- words that aren't kept
all_not : (Name → Bool) → List Entry → Bool
all_not Q [] = true
all_not Q (e ∷ es) = not (Q e.spelling) && all_not Q es

look_none : (Q : Name → Bool) (b : Name) → T (Q b) → (es : List Entry) (t : Lookahead) → T (all_not Q es) → look_up b es t ≡ t
unfolding all_not
look_none Q b q [] t h = refl
look_none Q b q (e ∷ es) t h = by_bool (λ k. pick k e.means (look_up b es t) ≡ t) (same b e.spelling) (λ k. absurd (T_not (Q e.spelling) (and_l _ _ h) (rw (same_is b e.spelling (is_T _ k)) at q))) (λ k. look_none Q b q es t (and_r (not (Q e.spelling)) _ h))

-- all tokens of a table pass a test
all_tok : (Lookahead → Bool) → List Entry → Bool
all_tok Q [] = true
all_tok Q (e ∷ es) = Q e.means && all_tok Q es

look_all : (Q : Lookahead → Bool) (b : Name) (es : List Entry) (t : Lookahead) → T (all_tok Q es) → T (Q t) → T (Q (look_up b es t))
unfolding all_tok
look_all Q b [] t h k = k
look_all Q b (e ∷ es) t h k = by_bool (λ x. T (Q (pick x e.means (look_up b es t)))) (same b e.spelling) (λ x. and_l _ _ h) (λ x. look_all Q b es t (and_r (Q e.means) _ h) k)

-- a bare token is a word's beginning
wordy : Lookahead → Bool
wordy x = not (no_word x) && not (is_paren x)

text_wordy : (b : Name) (g : Bool) → T (wordy (lookahead_of false 0 b g))
unfolding wordy all_tok
text_wordy b true = tt
text_wordy b false = look_all wordy b keyword_table la_part tt tt

not_l : (a b : Bool) → T (not a && b) → a ≡ false
not_l true b h = absurd h
not_l false b h = refl

not_r : (a b : Bool) → T (a && not b) → b ≡ false
not_r true true h = absurd h
not_r true false h = refl
not_r false b h = absurd h

px_wordy : {s : List Token} {q : WordPart} → PartText false s q → (r : List Token) → T (wordy (lookahead (s ++ r)))
unfolding wordy
px_wordy (literal_x {b = b}) r = text_wordy b (next_joined r)
px_wordy quoted_x r = tt
px_wordy parameter_x r = tt
px_wordy quoted_parameter_x r = tt
px_wordy (substitution_x h) r = tt
px_wordy (quoted_substitution_x h) r = tt

wx_wordy : {s : List Token} {w : Word} → WordText s w → (r : List Token) → T (wordy (lookahead (s ++ r)))
wx_wordy (word_x {s} {t} px m) r = rw (app_assoc s t r) (px_wordy px (t ++ r))

wx_word : {s : List Token} {w : Word} → WordText s w → (r : List Token) → no_word (lookahead (s ++ r)) ≡ false
unfolding wordy
wx_word {s} h r = not_l (no_word (lookahead (s ++ r))) _ (wx_wordy h r)

wx_open : {s : List Token} {w : Word} → WordText s w → (r : List Token) → is_paren (lookahead (s ++ r)) ≡ false
unfolding wordy
wx_open {s} h r = not_r (not (no_word (lookahead (s ++ r)))) _ (wx_wordy h r)

wx_glued : {s : List Token} {w : Word} → WordText s w → (r : List Token) → next_joined (s ++ r) ≡ false
wx_glued (word_x {s} {t} px m) r = rw (app_assoc s t r) (glued_in px (t ++ r))

px_odd : {s : List Token} {q : WordPart} → PartText true s q → (r : List Token) → lookahead (s ++ r) ≡ la_odd
px_odd literal_x r = refl
px_odd quoted_x r = refl
px_odd parameter_x r = refl
px_odd quoted_parameter_x r = refl
px_odd (substitution_x h) r = refl
px_odd (quoted_substitution_x h) r = refl

more_open : {s : List Token} {w : Word} → MoreText s w → (r : List Token) → is_paren (lookahead r) ≡ false → is_paren (lookahead (s ++ r)) ≡ false
more_open more_none r k = k
more_open (more_part {s} {t} px m) r k = rw (app_assoc s t r, px_odd px (t ++ r))

ss_open : {s : List Token} {ss : Assignments} → AssignmentsText s ss → (r : List Token) → is_paren (lookahead r) ≡ false → is_paren (lookahead (s ++ r)) ≡ false
unfolding wordy
ss_open no_assignments_x r k = k
ss_open (assign_x {b} {s} {t} c q tv m h) r k = not_r (not (no_word (lookahead_of false 0 b (next_joined ((s ++ t) ++ r))))) _ (text_wordy b (next_joined ((s ++ t) ++ r)))

ss_glued : {s : List Token} {ss : Assignments} → AssignmentsText s ss → (r : List Token) → next_joined r ≡ false → next_joined (s ++ r) ≡ false
ss_glued no_assignments_x r k = k
ss_glued (assign_x c q tv m h) r k = refl

ws_glued : {s : List Token} {ws : Words} → WordsText s ws → (r : List Token) → next_joined r ≡ false → next_joined (s ++ r) ≡ false
ws_glued no_words_x r k = k
ws_glued (and_word_x {s} {t} h hs) r k = rw (app_assoc s t r) (wx_glued h (t ++ r))

ws_open : {s : List Token} {ws : Words} → WordsText s ws → (r : List Token) → is_paren (lookahead r) ≡ false → is_paren (lookahead (s ++ r)) ≡ false
ws_open no_words_x r k = k
ws_open (and_word_x {s} {t} h hs) r k = rw (app_assoc s t r) (wx_open h (t ++ r))

ts_glued : {s : List Token} {ts : Redirects} → RedirectsText s ts → (r : List Token) → next_joined r ≡ false → next_joined (s ++ r) ≡ false
ts_glued no_redirects_x r k = k
ts_glued (redirect_x sign_input h hs) r k = refl
ts_glued (redirect_x sign_output h hs) r k = refl
ts_glued (redirect_x sign_append h hs) r k = refl
ts_glued (redirect_x sign_here h hs) r k = refl

ts_open : {s : List Token} {ts : Redirects} → RedirectsText s ts → (r : List Token) → is_paren (lookahead r) ≡ false → is_paren (lookahead (s ++ r)) ≡ false
ts_open no_redirects_x r k = k
ts_open (redirect_x sign_input h hs) r k = refl
ts_open (redirect_x sign_output h hs) r k = refl
ts_open (redirect_x sign_append h hs) r k = refl
ts_open (redirect_x sign_here h hs) r k = refl

ts_word : {s : List Token} {ts : Redirects} → RedirectsText s ts → (r : List Token) → no_word (lookahead r) ≡ true → no_word (lookahead (s ++ r)) ≡ true
ts_word no_redirects_x r k = k
ts_word (redirect_x sign_input h hs) r k = refl
ts_word (redirect_x sign_output h hs) r k = refl
ts_word (redirect_x sign_append h hs) r k = refl
ts_word (redirect_x sign_here h hs) r k = refl

arrow_in : {a : Token} {k : RedirectKind} → RedirectSign a k → (r : List Token) → redirect_at (a ∷ r) ≡ some (k, r)
arrow_in sign_input r = refl
arrow_in sign_output r = refl
arrow_in sign_append r = refl
arrow_in sign_here r = refl

-- the first word of a simple command
cut_no : (o : Option Split) → T (not (opt o false (λ c. valid_name c.before))) → split_ok o ≡ none
cut_no none h = refl
cut_no (some c) h = rw (not_r true (valid_name c.before) h)

wx_set : {v : List Token} {w : Word} → WordText v w → T (first_word_ok v) → (r : List Token) → assignment_at (v ++ r) ≡ none
wx_set (word_x {t = t} (literal_x {b = b}) m) f r = cut_no (split_equals b []) (and_r (opt (bare (token false 0 b ∷ t)) true (λ x. not (listed x reserved))) _ f)
wx_set (word_x quoted_x m) f r = refl
wx_set (word_x parameter_x m) f r = refl
wx_set (word_x quoted_parameter_x m) f r = refl
wx_set (word_x (substitution_x h) m) f r = refl
wx_set (word_x (quoted_substitution_x h) m) f r = refl

free_part : (b : Name) → T (not (listed b reserved)) → look_up b keyword_table la_part ≡ la_part
unfolding all_not
free_part b h = look_none (λ x. not (listed x reserved)) b h keyword_table la_part tt

wx_part : {v : List Token} {w : Word} → WordText v w → T (first_word_ok v) → (r : List Token) → next_joined r ≡ false → lookahead (v ++ r) ≡ la_part
wx_part (word_x (literal_x {b = b}) more_none) f r g = rw g (free_part b (and_l _ _ f))
wx_part (word_x literal_x (more_part {s} {t} px m)) f r g = rw (app_assoc s t r, glued_in px (t ++ r))
wx_part (word_x quoted_x m) f r g = refl
wx_part (word_x parameter_x m) f r g = refl
wx_part (word_x quoted_parameter_x m) f r g = refl
wx_part (word_x (substitution_x h) m) f r g = refl
wx_part (word_x (quoted_substitution_x h) m) f r g = refl

has : Option Split → Bool
has none = false
has (some c) = true

has_it : (o : Option Split) (c : Split) → o ≡ some c → T (has o)
unfolding has
has_it o c e = rw e tt

set_part : (b : Name) (c : Split) → split_equals b [] ≡ some c → (g : Bool) → lookahead_of false 0 b g ≡ la_part
unfolding all_not has
set_part b c e true = refl
set_part b c e false = look_none (λ x. has (split_equals x [])) b (has_it (split_equals b []) c e) keyword_table la_part tt

ss_part : {s : List Token} {ss : Assignments} → AssignmentsText s ss → (r : List Token) → lookahead r ≡ la_part → lookahead (s ++ r) ≡ la_part
ss_part no_assignments_x r k = k
ss_part (assign_x {b} {s} {t} c q tv m h) r k = set_part b c q (next_joined ((s ++ t) ++ r))

wx_fun : {v : List Token} {w : Word} → WordText v w → (r : List Token) → is_paren (lookahead r) ≡ false → function_at (v ++ r) ≡ false
wx_fun (word_x literal_x m) r k = more_open m r k
wx_fun (word_x quoted_x m) r k = refl
wx_fun (word_x parameter_x m) r k = refl
wx_fun (word_x quoted_parameter_x m) r k = refl
wx_fun (word_x (substitution_x h) m) r k = refl
wx_fun (word_x (quoted_substitution_x h) m) r k = refl

set_fun : {s t : List Token} {w : Word} {ss : Assignments} (b : List ℕ) → MoreText s w → AssignmentsText t ss → (r : List Token) → is_paren (lookahead r) ≡ false → function_at ((token false 0 b ∷ (s ++ t)) ++ r) ≡ false
set_fun {s} {t} b m h r k = rw (app_assoc s t r) (more_open m (t ++ r) (ss_open h r k))

ss_fun : {s : List Token} {ss : Assignments} → AssignmentsText s ss → (r : List Token) → is_paren (lookahead r) ≡ false → function_at r ≡ false → function_at (s ++ r) ≡ false
ss_fun no_assignments_x r k f = f
ss_fun (assign_x {b} c q tv m h) r k f = set_fun b m h r k

-- what may stand behind
record Behind (r : List Token) : Type 0 where
  loose : next_joined r ≡ false
  wordless : no_word (lookahead r) ≡ true
  turnless : redirect_at r ≡ none
  unopen : is_paren (lookahead r) ≡ false
  setless : assignment_at r ≡ none

abbrev Beh : {r : List Token} → next_joined r ≡ false → no_word (lookahead r) ≡ true → redirect_at r ≡ none → is_paren (lookahead r) ≡ false → assignment_at r ≡ none → Behind r
Beh a b c d e = record { loose = a; wordless = b; turnless = c; unopen = d; setless = e }

behind : {r : List Token} → Fol r → Behind r
behind (c_in (i_in (a_in l_end))) = Beh refl refl refl refl refl
behind (c_in (i_in (a_in l_shut))) = Beh refl refl refl refl refl
behind (c_in (i_in (a_in l_close))) = Beh refl refl refl refl refl
behind (c_in (i_in (a_ends (separated semicolon)))) = Beh refl refl refl refl refl
behind (c_in (i_in (a_ends (separated newline)))) = Beh refl refl refl refl refl
behind (c_in (i_in (a_ends in_background))) = Beh refl refl refl refl refl
behind (c_in i_and) = Beh refl refl refl refl refl
behind (c_in i_or) = Beh refl refl refl refl refl
behind c_bar = Beh refl refl refl refl refl

fol_bar : {r : List Token} → FolI r → expect (sign (124 ∷ [])) r ≡ none
fol_bar (i_in (a_in l_end)) = refl
fol_bar (i_in (a_in l_shut)) = refl
fol_bar (i_in (a_in l_close)) = refl
fol_bar (i_in (a_ends (separated semicolon))) = refl
fol_bar (i_in (a_ends (separated newline))) = refl
fol_bar (i_in (a_ends in_background)) = refl
fol_bar i_and = refl
fol_bar i_or = refl

fol_join : {r : List Token} → FolA r → joiner_at r ≡ none
fol_join (a_in l_end) = refl
fol_join (a_in l_shut) = refl
fol_join (a_in l_close) = refl
fol_join (a_ends (separated semicolon)) = refl
fol_join (a_ends (separated newline)) = refl
fol_join (a_ends in_background) = refl

fol_ends : {r : List Token} → FolL r → terminator_at r ≡ none
fol_ends l_end = refl
fol_ends l_shut = refl
fol_ends l_close = refl

fol_stops : {r : List Token} → FolL r → ends_list (lookahead r) ≡ true
fol_stops l_end = refl
fol_stops l_shut = refl
fol_stops l_close = refl

folk_stops : {r : List Token} → FolK r → ends_list (lookahead r) ≡ true
folk_stops (k_clk e g) = rw (g, e)

ends_in : {p : Token} {b : Bool} → Terminator p b → (r : List Token) → terminator_at (p ∷ r) ≡ some (b, r)
ends_in (separated semicolon) r = refl
ends_in (separated newline) r = refl
ends_in in_background r = refl

sep_in : {p : Token} → Separator p → (r : List Token) → separator_at (p ∷ r) ≡ some r
sep_in semicolon r = refl
sep_in newline r = refl

sep_glued : {p : Token} → Separator p → p.joined ≡ false
sep_glued semicolon = refl
sep_glued newline = refl

sep_word : {p : Token} → Separator p → (r : List Token) → no_word (lookahead (p ∷ r)) ≡ true
sep_word semicolon r = refl
sep_word newline r = refl

-- how commands begin
cx_glued : {s : List Token} {c : Command} → CommandText s c → (r : List Token) → next_joined (s ++ r) ≡ false
cx_glued (simple_x {s} {t} {u} {v = v} hs hw hf ht hu) r = rw (app_assoc s (v ++ (t ++ u)) r, app_assoc v (t ++ u) r) (ss_glued hs (v ++ ((t ++ u) ++ r)) (wx_glued hw ((t ++ u) ++ r)))
cx_glued (assignments_x c q tv m h) r = refl
cx_glued (group_x h k) r = refl
cx_glued (subshell_x h k) r = refl
cx_glued (if_x h h1 h2 h3) r = refl
cx_glued (while_x h h1 h2) r = refl
cx_glued (for_x tv h k h1 h2) r = refl
cx_glued (case_x h h1 h2) r = refl
cx_glued (function_x tv h) r = refl

ix_glued : {s : List Token} {p : Pipeline} → PipelineText s p → (r : List Token) → next_joined (s ++ r) ≡ false
ix_glued (single_x h) r = cx_glued h r
ix_glued (piped_x {s} {t} h k) r = rw (app_assoc s (sign (124 ∷ []) ∷ t) r) (cx_glued h _)

nx_glued : {s : List Token} {n : Bool} {p : Pipeline} → NegatableText s n p → (r : List Token) → next_joined (s ++ r) ≡ false
nx_glued (plain_x h) r = ix_glued h r
nx_glued (negated_x h) r = refl

ax_glued : {s : List Token} {a : AndOr} → AndOrText s a → (r : List Token) → next_joined (s ++ r) ≡ false
ax_glued (first_x h) r = nx_glued h r
ax_glued (and_x {s} {t} h k) r = rw (app_assoc s (sign (38 ∷ 38 ∷ []) ∷ t) r) (ax_glued h _)
ax_glued (or_x {s} {t} h k) r = rw (app_assoc s (sign (124 ∷ 124 ∷ []) ∷ t) r) (ax_glued h _)

ls_glued : {s : List Token} {l : CommandList} → ClosedListText s l → (r : List Token) → next_joined r ≡ false → next_joined (s ++ r) ≡ false
ls_glued closed_end_x r g = g
ls_glued (closed_blank_x h) r g = refl
ls_glued (closed_next_x {p} {b} {s} {t} ha he hl) r g = rw (app_assoc s (p ∷ t) r) (ax_glued ha _)

else_glued : {s : List Token} {l : ElsePart} → ElseText s l → (r : List Token) → next_joined (s ++ r) ≡ false
else_glued fi_x r = refl
else_glued (else_x h) r = refl
else_glued (elif_x h h1 h2) r = refl

else_fol : {s : List Token} {l : ElsePart} → ElseText s l → (r : List Token) → next_joined r ≡ false → FolK (s ++ r)
else_fol fi_x r g = k_clk refl g
else_fol (else_x {s} h) r g = k_clk refl (rw (app_assoc s (keyword kw_fi ∷ []) r) (ls_glued h (keyword kw_fi ∷ r) refl))
else_fol (elif_x {s} {t} {u} h h1 h2) r g = k_clk refl (rw (app_assoc s (keyword kw_then ∷ (t ++ u)) r) (ls_glued h (keyword kw_then ∷ ((t ++ u) ++ r)) refl))

data Start : Lookahead → Type 0 where
  st_part : Start la_part
  st_op : (o : Opener) → Start (la_opener o)
  st_open : Start la_paren

data Begin : Lookahead → Type 0 where
  b_start : {x : Lookahead} → Start x → Begin x
  b_bang : Begin la_not

cx_start : {s : List Token} {c : Command} → CommandText s c → (r : List Token) → Fol r → Start (lookahead (s ++ r))
cx_start (simple_x {s} {t} {u} {v = v} hs hw hf ht hu) r f = rw (app_assoc s (v ++ (t ++ u)) r, app_assoc v (t ++ u) r, app_assoc t u r, ss_part hs (v ++ (t ++ (u ++ r))) (wx_part hw hf (t ++ (u ++ r)) (ws_glued ht (u ++ r) (ts_glued hu r (behind f).loose)))) st_part
cx_start (assignments_x {b} {s} {t} c q tv m h) r f = rw (set_part b c q (next_joined ((s ++ t) ++ r))) st_part
cx_start (group_x {s} {t} h k) r f = rw (app_assoc s (keyword kw_close ∷ t) r, ls_glued h (keyword kw_close ∷ (t ++ r)) refl) (st_op open_brace)
cx_start (subshell_x h k) r f = st_open
cx_start (if_x {s} {t} {u} {v} h h1 h2 h3) r f = rw (app_assoc s (keyword kw_then ∷ (t ++ (u ++ v))) r, ls_glued h (keyword kw_then ∷ ((t ++ (u ++ v)) ++ r)) refl) (st_op open_if)
cx_start (while_x {s} {t} {u} h h1 h2) r f = rw (app_assoc s (keyword kw_do ∷ (t ++ (keyword kw_done ∷ u))) r, ls_glued h (keyword kw_do ∷ ((t ++ (keyword kw_done ∷ u)) ++ r)) refl) (st_op open_while)
cx_start (for_x tv h k h1 h2) r f = st_op open_for
cx_start (case_x {s} {t} {u} h h1 h2) r f = rw (app_assoc s (keyword kw_in ∷ (t ++ (keyword kw_esac ∷ u))) r, wx_glued h (keyword kw_in ∷ ((t ++ (keyword kw_esac ∷ u)) ++ r))) (st_op open_case)
cx_start (function_x {x} tv h) r f = rw (free_part x (and_r (valid_name x) _ tv)) st_part

ix_start : {s : List Token} {p : Pipeline} → PipelineText s p → (r : List Token) → FolI r → Start (lookahead (s ++ r))
ix_start (single_x h) r f = cx_start h r (c_in f)
ix_start (piped_x {s} {t} h k) r f = rw (app_assoc s (sign (124 ∷ []) ∷ t) r) (cx_start h _ c_bar)

nx_begin : {s : List Token} {n : Bool} {p : Pipeline} → NegatableText s n p → (r : List Token) → FolI r → Begin (lookahead (s ++ r))
nx_begin (plain_x h) r f = b_start (ix_start h r f)
nx_begin (negated_x {s} h) r f = rw (ix_glued h r) b_bang

ax_begin : {s : List Token} {a : AndOr} → AndOrText s a → (r : List Token) → FolI r → Begin (lookahead (s ++ r))
ax_begin (first_x h) r f = nx_begin h r f
ax_begin (and_x {s} {t} h k) r f = rw (app_assoc s (sign (38 ∷ 38 ∷ []) ∷ t) r) (ax_begin h _ i_and)
ax_begin (or_x {s} {t} h k) r f = rw (app_assoc s (sign (124 ∷ 124 ∷ []) ∷ t) r) (ax_begin h _ i_or)

start_bang : {x : Lookahead} → Start x → is_not x ≡ false
start_bang st_part = refl
start_bang (st_op o) = refl
start_bang st_open = refl

begin_stops : {x : Lookahead} → Begin x → ends_list x ≡ false
begin_stops (b_start st_part) = refl
begin_stops (b_start (st_op o)) = refl
begin_stops (b_start st_open) = refl
begin_stops b_bang = refl

begin_line : {x : Lookahead} → Begin x → is_newline x ≡ false
begin_line (b_start st_part) = refl
begin_line (b_start (st_op o)) = refl
begin_line (b_start st_open) = refl
begin_line b_bang = refl

-- chains of && and || from the left, as what follows the first
abbrev J : Bool → Token
J b = pick b (sign (38 ∷ 38 ∷ [])) (sign (124 ∷ 124 ∷ []))

data Az : List Token → AndOr → AndOr → Type 0 where
  az_end : {a : AndOr} → Az [] a a
  az_more : {t u : List Token} {a z : AndOr} {n : Bool} {p : Pipeline} (b : Bool) → NegatableText t n p → Az u (joined a b n p) z → Az (J b ∷ (t ++ u)) a z

pub app_nil : (s : List Token) → s ++ [] ≡ s
app_nil [] = refl
app_nil (x ∷ s) = ap (λ z. x ∷ z) (app_nil s)

az_snoc : {u t : List Token} {a z : AndOr} {n : Bool} {p : Pipeline} → Az u a z → (b : Bool) → NegatableText t n p → Az (u ++ (J b ∷ t)) a (joined z b n p)
az_snoc {t = t} {n = n} {p = p} (az_end {a = a}) b h = subst (λ x. Az (J b ∷ x) a (joined a b n p)) (app_nil t) (az_more b h az_end)
az_snoc {t = t} (az_more {t = t1} {u = u1} b1 k q) b h = rw (app_assoc t1 u1 (J b ∷ t)) (az_more b1 k (az_snoc q b h))

record Left (s : List Token) (a : AndOr) : Type 0 where
  s1 : List Token
  s2 : List Token
  n1 : Bool
  p1 : Pipeline
  head1 : NegatableText s1 n1 p1
  then2 : Az s2 (first n1 p1) a
  is : s ≡ s1 ++ s2

left_snoc : {s t : List Token} {a : AndOr} {n : Bool} {p : Pipeline} → Left s a → (b : Bool) → NegatableText t n p → Left (s ++ (J b ∷ t)) (joined a b n p)
left_snoc {t = t} h b k = record { s1 = h.s1; s2 = h.s2 ++ (J b ∷ t); n1 = h.n1; p1 = h.p1; head1 = h.head1; then2 = az_snoc h.then2 b k; is = rw h.is (app_assoc h.s1 h.s2 (J b ∷ t)) }

left : {s : List Token} {a : AndOr} → AndOrText s a → Left s a
left (first_x {s} {n} {p} h) = record { s1 = s; s2 = []; n1 = n; p1 = p; head1 = h; then2 = az_end; is = sym (app_nil s) }
left (and_x h k) = left_snoc (left h) true k
left (or_x h k) = left_snoc (left h) false k

az_deep : {u : List Token} {a z : AndOr} → Az u a z → and_or_depth a ≤ and_or_depth z
az_deep az_end = omega arith
az_deep (az_more b h k) = omega (arith, az_deep k)

az_fol : {u : List Token} {a z : AndOr} → Az u a z → (r : List Token) → FolA r → FolI (u ++ r)
az_fol az_end r f = i_in f
az_fol (az_more true h k) r f = i_and
az_fol (az_more false h k) r f = i_or

join_in : (b : Bool) (r : List Token) → joiner_at (J b ∷ r) ≡ some (b, r)
join_in true r = refl
join_in false r = refl

deep_only : (b : List ℕ) (w : Word) → word_depth w ≤ word_depth (put_before b w)
deep_only [] w = omega arith
deep_only (c ∷ cs) w = omega arith

wx_some : {s : List Token} {w : Word} → WordText s w → 0 < length s
wx_some (word_x {s} {t} px m) = omega (arith, length_app s t, some_in px)

module _ {S : Deeper} {d : ℕ} (C : Complete S d) where
  part_in : {g : Bool} {s : List Token} {q : WordPart} → PartText g s q → part_depth q < suc d → (r : List Token) → parse_part S (s ++ r) ≡ some (q, r)
  part_in literal_x b r = refl
  part_in quoted_x b r = refl
  part_in parameter_x b r = refl
  part_in quoted_parameter_x b r = refl
  part_in (substitution_x {s = s} h) b r = rw (app_assoc s (sign (41 ∷ []) ∷ []) r, C.lx_in h (omega arith) (sign (41 ∷ []) ∷ r) l_shut)
  part_in (quoted_substitution_x {s = s} h) b r = rw (app_assoc s (sign (41 ∷ []) ∷ []) r, C.lx_in h (omega arith) (sign (41 ∷ []) ∷ r) l_shut)

  more_in : {s : List Token} {w : Word} → MoreText s w → word_depth w < suc d → (n : ℕ) → length s < n → (r : List Token) → next_joined r ≡ false → parse_more_go S n (s ++ r) ≡ some (w, r)
  more_in more_none b zero z r g = absurd (omega arith)
  more_in more_none b (suc n) z r g = rw g
  more_in (more_part px m) b zero z r g = absurd (omega arith)
  more_in (more_part {s} {t} px m) b (suc n) z r g = rw (app_assoc s t r, glued_in px (t ++ r), part_in px (omega arith) (t ++ r), more_in m (omega arith) n (omega (arith, length_app s t, some_in px)) r g)

  fits : (s r : List Token) → length s < suc (length (s ++ r))
  fits s r = omega (arith, length_app s r)

  word_in : {s : List Token} {w : Word} → WordText s w → word_depth w < suc d → (r : List Token) → next_joined r ≡ false → parse_word S (s ++ r) ≡ some (w, r)
  word_in (word_x {s} {t} px m) b r g = rw (app_assoc s t r, glued_in px (t ++ r), part_in px (omega arith) (t ++ r), more_in m (omega arith) (suc (length (t ++ r))) (fits t r) r g)

  words_in : {s : List Token} {ws : Words} → WordsText s ws → words_depth ws < suc d → (n : ℕ) → length s < n → (r : List Token) → next_joined r ≡ false → no_word (lookahead r) ≡ true → parse_words_go S n (s ++ r) ≡ some (ws, r)
  words_in no_words_x b zero z r g k = absurd (omega arith)
  words_in no_words_x b (suc n) z r g k = rw k
  words_in (and_word_x h hs) b zero z r g k = absurd (omega arith)
  words_in (and_word_x {s} {t} h hs) b (suc n) z r g k = rw (app_assoc s t r, wx_word h (t ++ r), word_in h (omega arith) (t ++ r) (ws_glued hs r g), words_in hs (omega arith) n (omega (arith, length_app s t, wx_some h)) r g k)

  sets_in : {s : List Token} {ss : Assignments} → AssignmentsText s ss → assignments_depth ss < suc d → (n : ℕ) → length s < n → (r : List Token) → next_joined r ≡ false → assignment_at r ≡ none → parse_assignments_go S n (s ++ r) ≡ some (ss, r)
  sets_in no_assignments_x b zero z r g k = absurd (omega arith)
  sets_in no_assignments_x b (suc n) z r g k = rw k
  sets_in (assign_x c q tv m h) b zero z r g k = absurd (omega arith)
  sets_in (assign_x {s = s} {t} {w} c q tv m h) b (suc n) z r g k = rw (app_assoc s t r, q, T-is _ tv, more_in m (omega (arith, deep_only c.behind w)) (suc (length (s ++ (t ++ r)))) (fits s (t ++ r)) (t ++ r) (ss_glued h r g), sets_in h (omega arith) n (omega (arith, length_app s t)) r g k)

  turns_in : {s : List Token} {ts : Redirects} → RedirectsText s ts → redirects_depth ts < suc d → (n : ℕ) → length s < n → (r : List Token) → next_joined r ≡ false → redirect_at r ≡ none → parse_redirects_go S n (s ++ r) ≡ some (ts, r)
  turns_in no_redirects_x b zero z r g k = absurd (omega arith)
  turns_in no_redirects_x b (suc n) z r g k = rw k
  turns_in (redirect_x a h hs) b zero z r g k = absurd (omega arith)
  turns_in (redirect_x {s = s} {t} a h hs) b (suc n) z r g k = rw (app_assoc s t r, arrow_in a (s ++ (t ++ r)), word_in h (omega arith) (t ++ r) (ts_glued hs r g), turns_in hs (omega arith) n (omega (arith, length_app s t)) r g k)

  words1_in : {s : List Token} {ws : Words} → WordsText s ws → words_depth ws < suc d → (r : List Token) → next_joined r ≡ false → no_word (lookahead r) ≡ true → parse_words S (s ++ r) ≡ some (ws, r)
  words1_in {s} h b r g k = words_in h b (suc (length (s ++ r))) (fits s r) r g k

  sets1_in : {s : List Token} {ss : Assignments} → AssignmentsText s ss → assignments_depth ss < suc d → (r : List Token) → next_joined r ≡ false → assignment_at r ≡ none → parse_assignments S (s ++ r) ≡ some (ss, r)
  sets1_in {s} h b r g k = sets_in h b (suc (length (s ++ r))) (fits s r) r g k

  turns1_in : {s : List Token} {ts : Redirects} → RedirectsText s ts → redirects_depth ts < suc d → (r : List Token) → next_joined r ≡ false → redirect_at r ≡ none → parse_redirects S (s ++ r) ≡ some (ts, r)
  turns1_in {s} h b r g k = turns_in h b (suc (length (s ++ r))) (fits s r) r g k

  simple_in : {s t u v : List Token} {ss : Assignments} {w : Word} {ws : Words} {ts : Redirects} → AssignmentsText s ss → WordText v w → T (first_word_ok v) → WordsText t ws → RedirectsText u ts → command_depth (simple ss (and_word w ws) ts) < suc d → (r : List Token) → Fol r → parse_simple S (s ++ (v ++ (t ++ (u ++ r)))) ≡ some (simple ss (and_word w ws) ts, r)
  simple_in {s} {t} {u} {v} hs hw hf ht hu b r f =
      let g = ts_glued hu r (behind f).loose in
      let g2 = ws_glued ht (u ++ r) g in
      rw (sets1_in hs (omega arith) (v ++ (t ++ (u ++ r))) (wx_glued hw _) (wx_set hw hf _), wx_word hw (t ++ (u ++ r)), word_in hw (omega arith) (t ++ (u ++ r)) g2, sym (first_is hw) ∙ T-is _ hf, words1_in ht (omega arith) (u ++ r) g (ts_word hu r (behind f).wordless), turns1_in hu (omega arith) r (behind f).loose (behind f).turnless)

  items_in : {s : List Token} {is : Arms} → ArmsText s is → arms_depth is < suc d → (n : ℕ) → length s < n → (r : List Token) → parse_arms_go S n (s ++ (keyword kw_esac ∷ r)) ≡ some (is, keyword kw_esac ∷ r)
  items_in no_arms_x b zero z r = absurd (omega arith)
  items_in no_arms_x b (suc n) z r = refl
  items_in (blank_arm_x h) b zero z r = absurd (omega arith)
  items_in (blank_arm_x h) b (suc n) z r = items_in h b n (omega arith) r
  items_in (arm_x h k hl hs) b zero z r = absurd (omega arith)
  items_in (arm_x {p} {s} {t} {u} h k hl hs) b (suc n) z r = rw (app_assoc s (p ∷ (t ++ (sign (59 ∷ 59 ∷ []) ∷ u))) (keyword kw_esac ∷ r), word_in h (omega arith) (p ∷ ((t ++ (sign (59 ∷ 59 ∷ []) ∷ u)) ++ (keyword kw_esac ∷ r))) (sep_glued k), sep_in k ((t ++ (sign (59 ∷ 59 ∷ []) ∷ u)) ++ (keyword kw_esac ∷ r)), app_assoc t (sign (59 ∷ 59 ∷ []) ∷ u) (keyword kw_esac ∷ r), C.lx_in hl (omega arith) (sign (59 ∷ 59 ∷ []) ∷ (u ++ (keyword kw_esac ∷ r))) l_close, items_in hs (omega arith) n (omega (arith, length_app)) r)

  items1_in : {s : List Token} {is : Arms} → ArmsText s is → arms_depth is < suc d → (r : List Token) → parse_arms S (s ++ (keyword kw_esac ∷ r)) ≡ some (is, keyword kw_esac ∷ r)
  items1_in {s} h b r = items_in h b (suc (length (s ++ (keyword kw_esac ∷ r)))) (fits s (keyword kw_esac ∷ r)) r

  cx_in : {s : List Token} {c : Command} → CommandText s c → command_depth c < suc d → (r : List Token) → Fol r → parse_command S (s ++ r) ≡ some (c, r)
  cx_in (simple_x {s} {t} {u} {v = v} hs hw hf ht hu) b r f =
      let g2 = ws_glued ht (u ++ r) (ts_glued hu r (behind f).loose) in
      let o = ws_open ht (u ++ r) (ts_open hu r (behind f).unopen) in
      rw (app_assoc s (v ++ (t ++ u)) r, app_assoc v (t ++ u) r, app_assoc t u r, ss_part hs (v ++ (t ++ (u ++ r))) (wx_part hw hf (t ++ (u ++ r)) g2), ss_fun hs (v ++ (t ++ (u ++ r))) (wx_open hw _) (wx_fun hw (t ++ (u ++ r)) o)) (simple_in hs hw hf ht hu b r f)
  cx_in (assignments_x {b = y} {s} {t} c q tv m h) b r f = rw (set_part y c q (next_joined ((s ++ t) ++ r)), set_fun y m h r (behind f).unopen, sets1_in (assign_x {b = y} {s = s} {t = t} c q tv m h) (omega arith) r (behind f).loose (behind f).setless, (behind f).wordless)
  cx_in (group_x {s} {t} h k) b r f = rw (app_assoc s (keyword kw_close ∷ t) r, ls_glued h (keyword kw_close ∷ (t ++ r)) refl, C.ls_in h (omega arith) (keyword kw_close ∷ (t ++ r)) (k_clk refl (ts_glued k r (behind f).loose)), turns1_in k (omega arith) r (behind f).loose (behind f).turnless)
  cx_in (subshell_x {s} {t} h k) b r f = rw (app_assoc s (sign (41 ∷ []) ∷ t) r, C.lx_in h (omega arith) (sign (41 ∷ []) ∷ (t ++ r)) l_shut, turns1_in k (omega arith) r (behind f).loose (behind f).turnless)
  cx_in (if_x {s} {t} {u} {v} h h1 h2 h3) b r f =
      let g = ts_glued h3 r (behind f).loose in
      rw (app_assoc s (keyword kw_then ∷ (t ++ (u ++ v))) r, app_assoc t (u ++ v) r, app_assoc u v r, ls_glued h (keyword kw_then ∷ (t ++ (u ++ (v ++ r)))) refl, C.ls_in h (omega arith) (keyword kw_then ∷ (t ++ (u ++ (v ++ r)))) (k_clk refl (ls_glued h1 (u ++ (v ++ r)) (else_glued h2 (v ++ r)))), C.ls_in h1 (omega arith) (u ++ (v ++ r)) (else_fol h2 (v ++ r) g), C.else_in h2 (omega arith) (v ++ r) g, turns1_in h3 (omega arith) r (behind f).loose (behind f).turnless)
  cx_in (while_x {s} {t} {u} h h1 h2) b r f = rw (app_assoc s (keyword kw_do ∷ (t ++ (keyword kw_done ∷ u))) r, app_assoc t (keyword kw_done ∷ u) r, ls_glued h (keyword kw_do ∷ (t ++ (keyword kw_done ∷ (u ++ r)))) refl, C.ls_in h (omega arith) (keyword kw_do ∷ (t ++ (keyword kw_done ∷ (u ++ r)))) (k_clk refl (ls_glued h1 (keyword kw_done ∷ (u ++ r)) refl)), C.ls_in h1 (omega arith) (keyword kw_done ∷ (u ++ r)) (k_clk refl (ts_glued h2 r (behind f).loose)), turns1_in h2 (omega arith) r (behind f).loose (behind f).turnless)
  cx_in (for_x {p = p} {s} {t} {u} tv h k h1 h2) b r f = rw (T-is _ tv, app_assoc s (p ∷ keyword kw_do ∷ (t ++ (keyword kw_done ∷ u))) r, app_assoc t (keyword kw_done ∷ u) r, words1_in h (omega arith) (p ∷ keyword kw_do ∷ (t ++ (keyword kw_done ∷ (u ++ r)))) (sep_glued k) (sep_word k (keyword kw_do ∷ (t ++ (keyword kw_done ∷ (u ++ r))))), sep_in k (keyword kw_do ∷ (t ++ (keyword kw_done ∷ (u ++ r)))), C.ls_in h1 (omega arith) (keyword kw_done ∷ (u ++ r)) (k_clk refl (ts_glued h2 r (behind f).loose)), turns1_in h2 (omega arith) r (behind f).loose (behind f).turnless)
  cx_in (case_x {s} {t} {u} h h1 h2) b r f = rw (app_assoc s (keyword kw_in ∷ (t ++ (keyword kw_esac ∷ u))) r, app_assoc t (keyword kw_esac ∷ u) r, wx_glued h (keyword kw_in ∷ (t ++ (keyword kw_esac ∷ (u ++ r)))), word_in h (omega arith) (keyword kw_in ∷ (t ++ (keyword kw_esac ∷ (u ++ r)))) refl, items1_in h1 (omega arith) (u ++ r), turns1_in h2 (omega arith) r (behind f).loose (behind f).turnless)
  cx_in (function_x {x} {s} tv h) b r f = rw (app_assoc s (keyword kw_close ∷ []) r, free_part x (and_r (valid_name x) _ tv), T-is (valid_name x) (and_l (valid_name x) (not (listed x reserved)) tv), not_r (valid_name x) (listed x reserved) tv, C.ls_in h (omega arith) (keyword kw_close ∷ r) (k_clk refl (behind f).loose))

  pipe_in : {s : List Token} {p : Pipeline} → PipelineText s p → pipeline_depth p < suc d → (n : ℕ) → length s < n → (r : List Token) → FolI r → parse_pipeline_go S n (s ++ r) ≡ some (p, r)
  pipe_in (single_x h) b zero z r f = absurd (omega arith)
  pipe_in (single_x h) b (suc n) z r f = rw (cx_in h b r (c_in f), fol_bar f)
  pipe_in (piped_x h k) b zero z r f = absurd (omega arith)
  pipe_in (piped_x {s} {t} h k) b (suc n) z r f = rw (app_assoc s (sign (124 ∷ []) ∷ t) r, cx_in h (omega arith) (sign (124 ∷ []) ∷ (t ++ r)) c_bar, pipe_in k (omega arith) n (omega (arith, length_app)) r f)

  nots_in : {s : List Token} {m : Bool} {p : Pipeline} → NegatableText s m p → pipeline_depth p < suc d → (r : List Token) → FolI r → parse_negatable S (s ++ r) ≡ some ((m, p), r)
  nots_in (plain_x {s} h) b r f = rw (start_bang (ix_start h r f), pipe_in h b (suc (length (s ++ r))) (fits s r) r f)
  nots_in (negated_x {s} h) b r f = rw (ix_glued h r, pipe_in h b (suc (length (s ++ r))) (fits s r) r f)

  ands_go_in : {u : List Token} {a x : AndOr} → Az u a x → and_or_depth x < suc d → (n : ℕ) → length u < n → (r : List Token) → FolA r → parse_and_or_go S n a (u ++ r) ≡ some (x, r)
  ands_go_in az_end b zero z r f = absurd (omega arith)
  ands_go_in az_end b (suc n) z r f = rw (fol_join f)
  ands_go_in (az_more v h k) b zero z r f = absurd (omega arith)
  ands_go_in (az_more {t} {u} v h k) b (suc n) z r f = rw (app_assoc t u r, join_in v (t ++ (u ++ r)), nots_in h (omega (arith, az_deep k)) (u ++ r) (az_fol k r f), ands_go_in k b n (omega (arith, length_app)) r f)

  ands_left : {s : List Token} {a : AndOr} (h : Left s a) → and_or_depth a < suc d → (r : List Token) → FolA r → parse_and_or S (s ++ r) ≡ some (a, r)
  ands_left {s} h b r f = rw (h.is, app_assoc h.s1 h.s2 r, nots_in h.head1 (omega (arith, az_deep h.then2)) (h.s2 ++ r) (az_fol h.then2 r f), ands_go_in h.then2 b (suc (length (h.s2 ++ r))) (fits h.s2 r) r f)

  ands_in : {s : List Token} {a : AndOr} → AndOrText s a → and_or_depth a < suc d → (r : List Token) → FolA r → parse_and_or S (s ++ r) ≡ some (a, r)
  ands_in h b r f = ands_left (left h) b r f

  list_in : {s : List Token} {l : CommandList} → ClosedListText s l → list_depth l < suc d → (n : ℕ) → length s < n → (r : List Token) → FolK r → parse_list_go S false n (s ++ r) ≡ some (l, r)
  list_in closed_end_x b zero z r f = absurd (omega arith)
  list_in closed_end_x b (suc n) z r f = rw (folk_stops f)
  list_in (closed_blank_x h) b zero z r f = absurd (omega arith)
  list_in (closed_blank_x h) b (suc n) z r f = list_in h b n (omega arith) r f
  list_in (closed_next_x ha he hl) b zero z r f = absurd (omega arith)
  list_in (closed_next_x {p} {s = s} {t} ha he hl) b (suc n) z r f = rw (app_assoc s (p ∷ t) r, begin_stops (ax_begin ha (p ∷ (t ++ r)) (i_in (a_ends he))), begin_line (ax_begin ha (p ∷ (t ++ r)) (i_in (a_ends he))), ands_in ha (omega arith) (p ∷ (t ++ r)) (a_ends he), ends_in he (t ++ r), list_in hl (omega arith) n (omega (arith, length_app)) r f)

  listx_in : {s : List Token} {l : CommandList} → ListText s l → list_depth l < suc d → (n : ℕ) → length s < n → (r : List Token) → FolL r → parse_list_go S true n (s ++ r) ≡ some (l, r)
  listx_in end_x b zero z r f = absurd (omega arith)
  listx_in end_x b (suc n) z r f = rw (fol_stops f)
  listx_in (last_x h) b zero z r f = absurd (omega arith)
  listx_in (last_x h) b (suc n) z r f = rw (begin_stops (ax_begin h r (i_in (a_in f))), begin_line (ax_begin h r (i_in (a_in f))), ands_in h (omega arith) r (a_in f), fol_ends f)
  listx_in (blank_x h) b zero z r f = absurd (omega arith)
  listx_in (blank_x h) b (suc n) z r f = listx_in h b n (omega arith) r f
  listx_in (next_x ha he hl) b zero z r f = absurd (omega arith)
  listx_in (next_x {p} {s = s} {t} ha he hl) b (suc n) z r f = rw (app_assoc s (p ∷ t) r, begin_stops (ax_begin ha (p ∷ (t ++ r)) (i_in (a_ends he))), begin_line (ax_begin ha (p ∷ (t ++ r)) (i_in (a_ends he))), ands_in ha (omega arith) (p ∷ (t ++ r)) (a_ends he), ends_in he (t ++ r), listx_in hl (omega arith) n (omega (arith, length_app)) r f)

  elsep_in : {s : List Token} {l : ElsePart} → ElseText s l → else_depth l < suc d → (r : List Token) → next_joined r ≡ false → parse_else S (parse_list S false) (s ++ r) ≡ some (l, r)
  elsep_in fi_x b r g = refl
  elsep_in (else_x {s} h) b r g = rw (app_assoc s (keyword kw_fi ∷ []) r, list_in h b (suc (length (s ++ (keyword kw_fi ∷ r)))) (omega (arith, length_app)) (keyword kw_fi ∷ r) (k_clk refl g))
  elsep_in (elif_x {s} {t} {u} h h1 h2) b r g = rw (app_assoc s (keyword kw_then ∷ (t ++ u)) r, app_assoc t u r, C.ls_in h (omega arith) (keyword kw_then ∷ (t ++ (u ++ r))) (k_clk refl (ls_glued h1 (u ++ r) (else_glued h2 r))), C.ls_in h1 (omega arith) (u ++ r) (else_fol h2 r g), C.else_in h2 (omega arith) r g)

  step_in : Complete (record { lists = parse_list S; elses = parse_else S (parse_list S false) }) (suc d)
  step_in = record { ls_in = λ {s} h b r f. list_in h b (suc (length (s ++ r))) (omega (arith, length_app s r)) r f; lx_in = λ {s} h b r f. listx_in h b (suc (length (s ++ r))) (omega (arith, length_app s r)) r f; else_in = λ h b r g. elsep_in h b r g }

pub level_in : (d : ℕ) → Complete (level d) d
unfolding level
level_in zero = record { ls_in = λ h b r f. absurd (omega arith); lx_in = λ h b r f. absurd (omega arith); else_in = λ h b r g. absurd (omega arith) }
level_in (suc d) = step_in (level_in d)

pub parse_in : {s : List Token} {l : CommandList} → ListText s l → list_depth l < 33 → parse s ≡ some l
unfolding parse
parse_in {s} {l} h b = ap whole (subst (λ z. (level 33).lists true z ≡ some (l, [])) (app_nil s) ((level_in 33).lx_in h b [] l_end))

un_some : {A : Type 0} → A → Option A → A
un_some a none = a
un_some a (some b) = b

pub some_is : {A : Type 0} {a b : A} → some a ≡ some b → a ≡ b
unfolding un_some
some_is {a} e = ap (un_some a) e

pub one_text : (t : List ℕ) (l m : CommandList) → Parses t l → Parses t m → l ≡ m
one_text t l m h k = some_is (sym (parse_in h.derived (omega (arith, leb→le (list_depth l) 32 (and_r (leb (length t) 16384) _ h.small)))) ∙ parse_in k.derived (omega (arith, leb→le (list_depth m) 32 (and_r (leb (length t) 16384) _ k.small))))
