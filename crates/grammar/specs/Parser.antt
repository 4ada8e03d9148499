-- A parser as a function: each level of depth is made from the one below.
use Rattle.std.specs.Prelude.{Bool, true, false, ◌&&◌, not, List, [], ◌∷◌, ℕ, zero, suc, codes, length, eqb}
use Rattle.std.proofs.Math.Option.{Option, some, none}
use Rattle.syntax.specs.Base.{pick, opt, on_some, Name, same, valid_name}
use Rattle.syntax.specs.Tree.{WordPart, literal, parameter, substitution, Word, no_parts, and_part, Words, no_words, and_word, Assignments, no_assignments, assign, RedirectKind, input, output, append, here, Redirects, no_redirects, redirect, Command, simple, group, subshell, if, while, for, case, function, ElsePart, no_else, else, Arms, no_arms, arm, Pipeline, single, piped, AndOr, first, joined, CommandList, end, next}
use Rattle.grammar.specs.Tokens.{Token}
use Rattle.grammar.specs.Grammar.{sign, keyword, Split, split_equals, is_assignment, put_before, reserved, listed, kw_if, kw_then, kw_elif, kw_else, kw_fi, kw_while, kw_do, kw_done, kw_for, kw_in, kw_case, kw_esac, kw_open, kw_close, kw_not, kw_when}

-- a value and the tokens behind it
abbrev pub Parsed : Type 0 → Type 0
Parsed A = Option (A × List Token)

-- what stands at the beginning of tokens, where a command may begin
pub data Opener : Type 0 where
  open_if open_while open_for open_case open_brace : Opener

pub data Lookahead : Type 0 where
  la_end la_odd la_part la_not la_keyword la_paren la_pipe la_and la_or la_newline la_close_paren la_double_semicolon : Lookahead
  la_opener : Opener → Lookahead
  la_redirect : RedirectKind → Lookahead
  la_terminator : Bool → Lookahead

pub record Entry : Type 0 where
  pub spelling : Name
  pub means : Lookahead

abbrev pub entry : Name → Lookahead → Entry
entry n t = record { spelling = n; means = t }

abbrev pub look_up : List ℕ → List Entry → Lookahead → Lookahead
look_up b [] d = d
look_up b (e ∷ es) d = pick (same b e.spelling) e.means (look_up b es d)

abbrev pub keyword_table : List Entry
keyword_table = entry kw_when la_keyword ∷ entry kw_if (la_opener open_if) ∷ entry kw_then la_keyword ∷ entry kw_elif la_keyword ∷ entry kw_else la_keyword ∷ entry kw_fi la_keyword ∷ entry kw_while (la_opener open_while) ∷ entry kw_do la_keyword ∷ entry kw_done la_keyword ∷ entry kw_for (la_opener open_for) ∷ entry kw_in la_keyword ∷ entry kw_case (la_opener open_case) ∷ entry kw_esac la_keyword ∷ entry kw_open (la_opener open_brace) ∷ entry kw_close la_keyword ∷ entry kw_not la_not ∷ []

abbrev pub sign_table : List Entry
sign_table = entry (codes ";") (la_terminator false) ∷ entry (10 ∷ []) la_newline ∷ entry (codes "&") (la_terminator true) ∷ entry (codes "|") la_pipe ∷ entry (codes "<") (la_redirect input) ∷ entry (codes ">") (la_redirect output) ∷ entry (codes ">>") (la_redirect append) ∷ entry (codes "<<") (la_redirect here) ∷ entry (codes "(") la_paren ∷ entry (codes ")") la_close_paren ∷ entry (codes "&&") la_and ∷ entry (codes "||") la_or ∷ entry (codes ";;") la_double_semicolon ∷ []

abbrev pub next_joined : List Token → Bool
next_joined [] = false
next_joined (p ∷ r) = p.joined

abbrev pub lookahead_of : Bool → ℕ → List ℕ → Bool → Lookahead
lookahead_of true t b g = la_odd
lookahead_of false zero b true = la_part
lookahead_of false zero b false = look_up b keyword_table la_part
lookahead_of false (suc zero) b g = la_part
lookahead_of false (suc (suc zero)) b g = la_part
lookahead_of false (suc (suc (suc zero))) b g = la_part
lookahead_of false (suc (suc (suc (suc zero)))) b g = look_up b sign_table la_odd
lookahead_of false (suc (suc (suc (suc (suc zero))))) b g = la_part
lookahead_of false (suc (suc (suc (suc (suc (suc zero)))))) b g = la_part
lookahead_of false (suc (suc (suc (suc (suc (suc (suc t))))))) b g = la_odd

abbrev pub lookahead : List Token → Lookahead
lookahead [] = la_end
lookahead (p ∷ r) = lookahead_of p.joined p.kind p.bytes (next_joined r)

abbrev pub is_paren : Lookahead → Bool
is_paren la_end = false
is_paren la_odd = false
is_paren la_part = false
is_paren la_not = false
is_paren la_keyword = false
is_paren la_paren = true
is_paren la_pipe = false
is_paren la_and = false
is_paren la_or = false
is_paren la_newline = false
is_paren la_close_paren = false
is_paren la_double_semicolon = false
is_paren (la_opener o) = false
is_paren (la_redirect k) = false
is_paren (la_terminator b) = false

-- one known token
abbrev pub same_flag : Bool → Bool → Bool
same_flag true b = b
same_flag false b = not b

abbrev pub same_token : Token → Token → Bool
same_token p q = same_flag p.joined q.joined && (eqb p.kind q.kind && same p.bytes q.bytes)

abbrev pub expect : Token → List Token → Option (List Token)
expect q [] = none
expect q (p ∷ r) = pick (same_token p q) (some r) none

-- the lists and the else-parts one level deeper
pub record Deeper : Type 0 where
  pub lists : Bool → List Token → Parsed CommandList
  pub elses : List Token → Parsed ElsePart

abbrev pub parse_substitution : Deeper → Bool → List ℕ → List Token → Parsed WordPart
parse_substitution S q [] r = on_some (S.lists true r) (λ x. on_some (expect (sign (codes ")")) x.1) (λ r1. some (substitution q x.0, r1)))
parse_substitution S q (c ∷ cs) r = none

abbrev pub parse_part_go : Deeper → ℕ → List ℕ → List Token → Parsed WordPart
parse_part_go S zero b r = some (literal false b, r)
parse_part_go S (suc zero) b r = some (literal true b, r)
parse_part_go S (suc (suc zero)) b r = some (parameter false b, r)
parse_part_go S (suc (suc (suc zero))) b r = some (parameter true b, r)
parse_part_go S (suc (suc (suc (suc zero)))) b r = none
parse_part_go S (suc (suc (suc (suc (suc zero))))) b r = parse_substitution S false b r
parse_part_go S (suc (suc (suc (suc (suc (suc zero)))))) b r = parse_substitution S true b r
parse_part_go S (suc (suc (suc (suc (suc (suc (suc t))))))) b r = none

abbrev pub parse_part : Deeper → List Token → Parsed WordPart
parse_part S [] = none
parse_part S (p ∷ r) = parse_part_go S p.kind p.bytes r

abbrev pub parse_more_go : Deeper → ℕ → List Token → Parsed Word
parse_more_go S zero ps = none
parse_more_go S (suc n) ps =
    pick (next_joined ps) (on_some (parse_part S ps) (λ x.
    on_some (parse_more_go S n x.1) (λ y.
    some (and_part x.0 y.0, y.1)))) (some (no_parts, ps))

abbrev pub parse_more : Deeper → List Token → Parsed Word
parse_more S ps = parse_more_go S (suc (length ps)) ps

abbrev pub parse_word : Deeper → List Token → Parsed Word
parse_word S ps =
    pick (next_joined ps) none (on_some (parse_part S ps) (λ x.
    on_some (parse_more S x.1) (λ y.
    some (and_part x.0 y.0, y.1))))

-- words go on until a sign
abbrev pub no_word : Lookahead → Bool
no_word la_end = true
no_word la_odd = false
no_word la_part = false
no_word la_not = false
no_word la_keyword = false
no_word la_paren = true
no_word la_pipe = true
no_word la_and = true
no_word la_or = true
no_word la_newline = true
no_word la_close_paren = true
no_word la_double_semicolon = true
no_word (la_opener o) = false
no_word (la_redirect k) = true
no_word (la_terminator b) = true

abbrev pub parse_words_go : Deeper → ℕ → List Token → Parsed Words
parse_words_go S zero ps = none
parse_words_go S (suc n) ps =
    pick (no_word (lookahead ps)) (some (no_words, ps)) (on_some (parse_word S ps) (λ x.
    on_some (parse_words_go S n x.1) (λ y.
    some (and_word x.0 y.0, y.1))))

abbrev pub parse_words : Deeper → List Token → Parsed Words
parse_words S ps = parse_words_go S (suc (length ps)) ps

abbrev pub after_first : List Token → List Token
after_first [] = []
after_first (p ∷ r) = r

abbrev pub split_ok : Option Split → Option Split
split_ok none = none
split_ok (some c) = pick (valid_name c.before) (some c) none

abbrev pub assignment_go : Bool → ℕ → List ℕ → Option Split
assignment_go true t b = none
assignment_go false zero b = split_ok (split_equals b [])
assignment_go false (suc t) b = none

abbrev pub assignment_at : List Token → Option Split
assignment_at [] = none
assignment_at (p ∷ r) = assignment_go p.joined p.kind p.bytes

abbrev pub parse_assignments_go : Deeper → ℕ → List Token → Parsed Assignments
parse_assignments_go S zero ps = none
parse_assignments_go S (suc n) ps =
    opt (assignment_at ps) (some (no_assignments, ps)) (λ c.
    on_some (parse_more S (after_first ps)) (λ x.
    on_some (parse_assignments_go S n x.1) (λ y.
    some (assign c.before (put_before c.behind x.0) y.0, y.1))))

abbrev pub parse_assignments : Deeper → List Token → Parsed Assignments
parse_assignments S ps = parse_assignments_go S (suc (length ps)) ps

abbrev pub redirect_at : List Token → Parsed RedirectKind
redirect_at ps =
    opt (expect (sign (codes "<")) ps) (opt (expect (sign (codes ">")) ps) (opt (expect (sign (codes ">>")) ps) (on_some (expect (sign (codes "<<")) ps) (λ r.
    some (here, r))) (λ r.
    some (append, r))) (λ r.
    some (output, r))) (λ r.
    some (input, r))

abbrev pub parse_redirects_go : Deeper → ℕ → List Token → Parsed Redirects
parse_redirects_go S zero ps = none
parse_redirects_go S (suc n) ps =
    opt (redirect_at ps) (some (no_redirects, ps)) (λ k.
    on_some (parse_word S k.1) (λ x.
    on_some (parse_redirects_go S n x.1) (λ y.
    some (redirect k.0 x.0 y.0, y.1))))

abbrev pub parse_redirects : Deeper → List Token → Parsed Redirects
parse_redirects S ps = parse_redirects_go S (suc (length ps)) ps

-- a simple command: its first word says whether it may be one
abbrev pub first_word_fits : Word → Bool
first_word_fits no_parts = true
first_word_fits (and_part (literal false b) no_parts) = not (listed b reserved) && not (is_assignment b)
first_word_fits (and_part (literal false b) (and_part q w)) = not (is_assignment b)
first_word_fits (and_part (literal true b) w) = true
first_word_fits (and_part (parameter q b) w) = true
first_word_fits (and_part (substitution q l) w) = true

abbrev pub assignments_alone : Assignments → List Token → Parsed Command
assignments_alone no_assignments r = none
assignments_alone (assign x w ss) r = some (simple (assign x w ss) no_words no_redirects, r)

abbrev pub parse_simple : Deeper → List Token → Parsed Command
parse_simple S ps =
    on_some (parse_assignments S ps) (λ x.
    pick (no_word (lookahead x.1)) (assignments_alone x.0 x.1) (on_some (parse_word S x.1) (λ w.
    pick (first_word_fits w.0) (on_some (parse_words S w.1) (λ y.
    on_some (parse_redirects S y.1) (λ z.
    some (simple x.0 (and_word w.0 y.0) z.0, z.1)))) none)))

abbrev pub name_go : Bool → ℕ → List ℕ → List Token → Parsed Name
name_go true t b r = none
name_go false zero b r = pick (valid_name b) (some (b, r)) none
name_go false (suc t) b r = none

abbrev pub parse_name : List Token → Parsed Name
parse_name [] = none
parse_name (p ∷ r) = name_go p.joined p.kind p.bytes r

abbrev pub function_at : List Token → Bool
function_at [] = false
function_at (p ∷ r) = eqb p.kind 0 && is_paren (lookahead r)

abbrev pub parse_function : Deeper → List Token → Parsed Command
parse_function S ps =
    on_some (parse_name ps) (λ x.
    pick (listed x.0 reserved) none (on_some (expect (sign (codes "(")) x.1) (λ r1.
    on_some (expect (sign (codes ")")) r1) (λ r2.
    on_some (expect (keyword kw_open) r2) (λ r3.
    on_some (S.lists false r3) (λ l.
    on_some (expect (keyword kw_close) l.1) (λ r4.
    some (function x.0 l.0, r4))))))))

abbrev pub separator_at : List Token → Option (List Token)
separator_at ps = opt (expect (sign (codes ";")) ps) (expect (sign (10 ∷ [])) ps) some

abbrev pub parse_arms_go : Deeper → ℕ → List Token → Parsed Arms
parse_arms_go S zero ps = none
parse_arms_go S (suc n) ps =
    opt (expect (sign (10 ∷ [])) ps) (opt (expect (keyword kw_when) ps) (some (no_arms, ps)) (λ r.
    on_some (parse_word S r) (λ w.
    on_some (separator_at w.1) (λ r1.
    on_some (S.lists true r1) (λ l.
    on_some (expect (sign (codes ";;")) l.1) (λ r2.
    on_some (parse_arms_go S n r2) (λ y.
    some (arm w.0 l.0 y.0, y.1)))))))) (λ r. parse_arms_go S n r)

abbrev pub parse_arms : Deeper → List Token → Parsed Arms
parse_arms S ps = parse_arms_go S (suc (length ps)) ps

abbrev pub parse_opener : Deeper → Opener → List Token → Parsed Command
parse_opener S open_if ps =
    on_some (expect (keyword kw_if) ps) (λ r.
    on_some (S.lists false r) (λ a.
    on_some (expect (keyword kw_then) a.1) (λ r1.
    on_some (S.lists false r1) (λ b.
    on_some (S.elses b.1) (λ c.
    on_some (parse_redirects S c.1) (λ t.
    some (if a.0 b.0 c.0 t.0, t.1)))))))
parse_opener S open_while ps =
    on_some (expect (keyword kw_while) ps) (λ r.
    on_some (S.lists false r) (λ a.
    on_some (expect (keyword kw_do) a.1) (λ r1.
    on_some (S.lists false r1) (λ b.
    on_some (expect (keyword kw_done) b.1) (λ r2.
    on_some (parse_redirects S r2) (λ t.
    some (while a.0 b.0 t.0, t.1)))))))
parse_opener S open_for ps =
    on_some (expect (keyword kw_for) ps) (λ r.
    on_some (parse_name r) (λ x.
    on_some (expect (keyword kw_in) x.1) (λ r1.
    on_some (parse_words S r1) (λ w.
    on_some (separator_at w.1) (λ r2.
    on_some (expect (keyword kw_do) r2) (λ r3.
    on_some (S.lists false r3) (λ l.
    on_some (expect (keyword kw_done) l.1) (λ r4.
    on_some (parse_redirects S r4) (λ t.
    some (for x.0 w.0 l.0 t.0, t.1))))))))))
parse_opener S open_case ps =
    on_some (expect (keyword kw_case) ps) (λ r.
    on_some (parse_word S r) (λ w.
    on_some (expect (keyword kw_in) w.1) (λ r1.
    on_some (parse_arms S r1) (λ y.
    on_some (expect (keyword kw_esac) y.1) (λ r2.
    on_some (parse_redirects S r2) (λ t.
    some (case w.0 y.0 t.0, t.1)))))))
parse_opener S open_brace ps =
    on_some (expect (keyword kw_open) ps) (λ r.
    on_some (S.lists false r) (λ l.
    on_some (expect (keyword kw_close) l.1) (λ r1.
    on_some (parse_redirects S r1) (λ t.
    some (group l.0 t.0, t.1)))))

abbrev pub parse_command_by : Deeper → Lookahead → List Token → Parsed Command
parse_command_by S la_end ps = none
parse_command_by S la_odd ps = none
parse_command_by S la_part ps = pick (function_at ps) (parse_function S ps) (parse_simple S ps)
parse_command_by S la_not ps = none
parse_command_by S la_keyword ps = none
parse_command_by S la_paren ps =
    on_some (expect (sign (codes "(")) ps) (λ r.
    on_some (S.lists true r) (λ l.
    on_some (expect (sign (codes ")")) l.1) (λ r1.
    on_some (parse_redirects S r1) (λ t.
    some (subshell l.0 t.0, t.1)))))
parse_command_by S la_pipe ps = none
parse_command_by S la_and ps = none
parse_command_by S la_or ps = none
parse_command_by S la_newline ps = none
parse_command_by S la_close_paren ps = none
parse_command_by S la_double_semicolon ps = none
parse_command_by S (la_opener o) ps = parse_opener S o ps
parse_command_by S (la_redirect k) ps = none
parse_command_by S (la_terminator b) ps = none

abbrev pub parse_command : Deeper → List Token → Parsed Command
parse_command S ps = parse_command_by S (lookahead ps) ps

abbrev pub parse_pipeline_go : Deeper → ℕ → List Token → Parsed Pipeline
parse_pipeline_go S zero ps = none
parse_pipeline_go S (suc n) ps =
    on_some (parse_command S ps) (λ x.
    opt (expect (sign (codes "|")) x.1) (some (single x.0, x.1)) (λ r.
    on_some (parse_pipeline_go S n r) (λ y.
    some (piped x.0 y.0, y.1))))

abbrev pub parse_pipeline : Deeper → List Token → Parsed Pipeline
parse_pipeline S ps = parse_pipeline_go S (suc (length ps)) ps

abbrev pub is_not : Lookahead → Bool
is_not la_end = false
is_not la_odd = false
is_not la_part = false
is_not la_not = true
is_not la_keyword = false
is_not la_paren = false
is_not la_pipe = false
is_not la_and = false
is_not la_or = false
is_not la_newline = false
is_not la_close_paren = false
is_not la_double_semicolon = false
is_not (la_opener o) = false
is_not (la_redirect k) = false
is_not (la_terminator b) = false

abbrev pub parse_negatable : Deeper → List Token → Parsed (Bool × Pipeline)
parse_negatable S ps =
    pick (is_not (lookahead ps)) (on_some (expect (keyword kw_not) ps) (λ r.
    on_some (parse_pipeline S r) (λ y.
    some ((true, y.0), y.1)))) (on_some (parse_pipeline S ps) (λ y.
    some ((false, y.0), y.1)))

abbrev pub joiner_at : List Token → Parsed Bool
joiner_at ps = opt (expect (sign (codes "&&")) ps) (on_some (expect (sign (codes "||")) ps) (λ r. some (false, r))) (λ r. some (true, r))

abbrev pub parse_and_or_go : Deeper → ℕ → AndOr → List Token → Parsed AndOr
parse_and_or_go S zero a ps = none
parse_and_or_go S (suc n) a ps =
    opt (joiner_at ps) (some (a, ps)) (λ x.
    on_some (parse_negatable S x.1) (λ y. parse_and_or_go S n (joined a x.0 y.0.0 y.0.1) y.1))

abbrev pub parse_and_or : Deeper → List Token → Parsed AndOr
parse_and_or S ps = on_some (parse_negatable S ps) (λ y. parse_and_or_go S (suc (length y.1)) (first y.0.0 y.0.1) y.1)

abbrev pub ends_list : Lookahead → Bool
ends_list la_end = true
ends_list la_odd = false
ends_list la_part = false
ends_list la_not = false
ends_list la_keyword = true
ends_list la_paren = false
ends_list la_pipe = false
ends_list la_and = false
ends_list la_or = false
ends_list la_newline = false
ends_list la_close_paren = true
ends_list la_double_semicolon = true
ends_list (la_opener o) = false
ends_list (la_redirect k) = false
ends_list (la_terminator b) = false

abbrev pub is_newline : Lookahead → Bool
is_newline la_end = false
is_newline la_odd = false
is_newline la_part = false
is_newline la_not = false
is_newline la_keyword = false
is_newline la_paren = false
is_newline la_pipe = false
is_newline la_and = false
is_newline la_or = false
is_newline la_newline = true
is_newline la_close_paren = false
is_newline la_double_semicolon = false
is_newline (la_opener o) = false
is_newline (la_redirect k) = false
is_newline (la_terminator b) = false

abbrev pub terminator_at : List Token → Parsed Bool
terminator_at ps =
    opt (expect (sign (codes ";")) ps) (opt (expect (sign (10 ∷ [])) ps) (on_some (expect (sign (codes "&")) ps) (λ r.
    some (true, r))) (λ r.
    some (false, r))) (λ r.
    some (false, r))

abbrev pub parse_list_go : Deeper → Bool → ℕ → List Token → Parsed CommandList
parse_list_go S m zero ps = none
parse_list_go S m (suc n) ps =
    pick (ends_list (lookahead ps)) (some (end, ps)) (pick (is_newline (lookahead ps)) (on_some (expect (sign (10 ∷ [])) ps) (λ r. parse_list_go S m n r)) (on_some (parse_and_or S ps) (λ x.
    opt (terminator_at x.1) (pick m (some (next x.0 false end, x.1)) none) (λ y.
    on_some (parse_list_go S m n y.1) (λ z.
    some (next x.0 y.0 z.0, z.1))))))

-- behind a then's list: fi, else list fi, or elif list then list and again an else part, one level deeper
abbrev pub parse_else : Deeper → (List Token → Parsed CommandList) → List Token → Parsed ElsePart
parse_else S same-level ps = opt (expect (keyword kw_fi) ps) (opt (expect (keyword kw_else) ps) (on_some (expect (keyword kw_elif) ps) (λ r. on_some (S.lists false r) (λ a. on_some (expect (keyword kw_then) a.1) (λ r1. on_some (S.lists false r1) (λ b. on_some (S.elses b.1) (λ c. some (else (next (first false (single (if a.0 b.0 c.0 no_redirects))) false end), c.1))))))) (λ r. on_some (same-level r) (λ a. on_some (expect (keyword kw_fi) a.1) (λ r1. some (else a.0, r1))))) (λ r. some (no_else, r))

abbrev pub parse_list : Deeper → Bool → List Token → Parsed CommandList
parse_list S m ps = parse_list_go S m (suc (length ps)) ps

-- levels of depth: lists less than so deep
unfoldable pub level : ℕ → Deeper
level zero = record { lists = λ m ps. none; elses = λ ps. none }
level (suc d) = let S = level d in record { lists = parse_list S; elses = parse_else S (parse_list S false) }

abbrev pub whole : Parsed CommandList → Option CommandList
whole none = none
whole (some (l, [])) = some l
whole (some (l, p ∷ r)) = none

unfoldable pub parse : List Token → Option CommandList
parse ps = whole ((level 33).lists true ps)
