-- From tokens to command lists: one relation for each nonterminal, between tokens and the tree that they are.
use Rattle.std.specs.Prelude.{◌≡◌, Bool, true, false, ◌&&◌, ◌||◌, not, List, [], ◌∷◌, ◌++◌, ℕ, codes, length, eqb, leb, T}
use Rattle.std.proofs.Math.Option.{Option, some, none}
use Rattle.syntax.specs.Base.{pick, opt, Name, same, valid_name}
use Rattle.syntax.specs.Tree.{WordPart, literal, parameter, substitution, Word, no_parts, and_part, Words, no_words, and_word, Assignments, no_assignments, assign, RedirectKind, input, output, append, here, Redirects, no_redirects, redirect, Command, simple, group, subshell, if, while, for, case, function, ElsePart, no_else, else, Arms, no_arms, arm, Pipeline, single, piped, AndOr, first, joined, CommandList, end, next}
use Rattle.syntax.specs.Depth.{list_depth}
use Rattle.grammar.specs.Tokens.{Token, token, tokens, start}

abbrev pub kw_if : Name
kw_if = codes "if"

abbrev pub kw_then : Name
kw_then = codes "then"

abbrev pub kw_elif : Name
kw_elif = codes "elif"

abbrev pub kw_else : Name
kw_else = codes "else"

abbrev pub kw_fi : Name
kw_fi = codes "fi"

abbrev pub kw_while : Name
kw_while = codes "while"

abbrev pub kw_do : Name
kw_do = codes "do"

abbrev pub kw_done : Name
kw_done = codes "done"

abbrev pub kw_for : Name
kw_for = codes "for"

abbrev pub kw_in : Name
kw_in = codes "in"

abbrev pub kw_case : Name
kw_case = codes "case"

abbrev pub kw_when : Name
kw_when = codes "when"

abbrev pub kw_esac : Name
kw_esac = codes "esac"

abbrev pub kw_open : Name
kw_open = codes "{"

abbrev pub kw_close : Name
kw_close = codes "}"

abbrev pub kw_not : Name
kw_not = codes "!"

-- these words are not the first word of a simple command and name no function; elsewhere they are words
abbrev pub reserved : List Name
reserved = kw_when ∷ kw_if ∷ kw_then ∷ kw_elif ∷ kw_else ∷ kw_fi ∷ kw_while ∷ kw_do ∷ kw_done ∷ kw_for ∷ kw_in ∷ kw_case ∷ kw_esac ∷ kw_open ∷ kw_close ∷ kw_not ∷ []

abbrev pub listed : Name → List Name → Bool
listed x [] = false
listed x (y ∷ ys) = same x y || listed x ys

abbrev pub sign : List ℕ → Token
sign b = token false 4 b

-- a keyword is a bare token to which nothing is joined: what follows begins a new word or is a sign
abbrev pub keyword : Name → Token
keyword x = token false 0 x

-- bytes parted at their first =
pub record Split : Type 0 where
  pub before : Name
  pub behind : List ℕ

abbrev pub split_equals : List ℕ → Name → Option Split
split_equals [] x = none
split_equals (c ∷ cs) x = pick (eqb c 61) (some (record { before = x; behind = cs })) (split_equals cs (x ++ (c ∷ [])))

-- name=.. with a valid name
abbrev pub is_assignment : List ℕ → Bool
is_assignment b = opt (split_equals b []) false (λ c. valid_name c.before)

-- what stands behind the = in the same token is the value's first part, if there is any of it
abbrev pub put_before : List ℕ → Word → Word
put_before [] w = w
put_before (c ∷ cs) w = and_part (literal false (c ∷ cs)) w

-- the bytes of a word that is one bare token
abbrev pub bare : List Token → Option Name
bare [] = none
bare (p ∷ []) = pick (eqb p.kind 0) (some p.bytes) none
bare (p ∷ q ∷ ps) = none

abbrev pub begins_assignment : List Token → Bool
begins_assignment [] = false
begins_assignment (p ∷ ps) = eqb p.kind 0 && is_assignment p.bytes

-- the first word of a simple command is no reserved word and no assignment
abbrev pub first_word_ok : List Token → Bool
first_word_ok ps = opt (bare ps) true (λ x. not (listed x reserved)) && not (begins_assignment ps)

pub data Separator : Token → Type 0 where
  semicolon : Separator (sign (codes ";"))
  newline : Separator (sign (10 ∷ []))

-- what ends a command; true: it is done in the background
pub data Terminator : Token → Bool → Type 0 where
  separated : {p : Token} → Separator p → Terminator p false
  in_background : Terminator (sign (codes "&")) true

pub data RedirectSign : Token → RedirectKind → Type 0 where
  sign_input : RedirectSign (sign (codes "<")) input
  sign_output : RedirectSign (sign (codes ">")) output
  sign_append : RedirectSign (sign (codes ">>")) append
  sign_here : RedirectSign (sign (codes "<<")) here

mutual
  -- a part of a word; whether its first token is joined to the one before
  pub data PartText : Bool → List Token → WordPart → Type 0 where
    literal_x : {g : Bool} {b : List ℕ} → PartText g (token g 0 b ∷ []) (literal false b)
    quoted_x : {g : Bool} {b : List ℕ} → PartText g (token g 1 b ∷ []) (literal true b)
    parameter_x : {g : Bool} {b : List ℕ} → PartText g (token g 2 b ∷ []) (parameter false b)
    quoted_parameter_x : {g : Bool} {b : List ℕ} → PartText g (token g 3 b ∷ []) (parameter true b)
    substitution_x : {g : Bool} {s : List Token} {l : CommandList} → ListText s l → PartText g (token g 5 [] ∷ (s ++ (sign (codes ")") ∷ []))) (substitution false l)
    quoted_substitution_x : {g : Bool} {s : List Token} {l : CommandList} → ListText s l → PartText g (token g 6 [] ∷ (s ++ (sign (codes ")") ∷ []))) (substitution true l)

  -- further parts of a word, each joined to the one before
  pub data MoreText : List Token → Word → Type 0 where
    more_none : MoreText [] no_parts
    more_part : {s t : List Token} {p : WordPart} {w : Word} → PartText true s p → MoreText t w → MoreText (s ++ t) (and_part p w)

  -- a word is what is joined together
  pub data WordText : List Token → Word → Type 0 where
    word_x : {s t : List Token} {p : WordPart} {w : Word} → PartText false s p → MoreText t w → WordText (s ++ t) (and_part p w)

  pub data WordsText : List Token → Words → Type 0 where
    no_words_x : WordsText [] no_words
    and_word_x : {s t : List Token} {w : Word} {ws : Words} → WordText s w → WordsText t ws → WordsText (s ++ t) (and_word w ws)

  -- name=word: the name and the = stand in one bare token
  pub data AssignmentsText : List Token → Assignments → Type 0 where
    no_assignments_x : AssignmentsText [] no_assignments
    assign_x : {b : List ℕ} {s t : List Token} {w : Word} {ss : Assignments} (c : Split) → split_equals b [] ≡ some c → T (valid_name c.before) → MoreText s w → AssignmentsText t ss → AssignmentsText (token false 0 b ∷ (s ++ t)) (assign c.before (put_before c.behind w) ss)

  pub data RedirectsText : List Token → Redirects → Type 0 where
    no_redirects_x : RedirectsText [] no_redirects
    redirect_x : {a : Token} {k : RedirectKind} {s t : List Token} {w : Word} {ts : Redirects} → RedirectSign a k → WordText s w → RedirectsText t ts → RedirectsText (a ∷ (s ++ t)) (redirect k w ts)

  pub data CommandText : List Token → Command → Type 0 where
    -- assignments, words, redirections; words may only be missing where there are no redirections
    simple_x : {s t u : List Token} {ss : Assignments} {w : Word} {ws : Words} {ts : Redirects} {v : List Token} → AssignmentsText s ss → WordText v w → T (first_word_ok v) → WordsText t ws → RedirectsText u ts → CommandText (s ++ (v ++ (t ++ u))) (simple ss (and_word w ws) ts)
    assignments_x : {b : List ℕ} {s t : List Token} {w : Word} {ss : Assignments} (c : Split) → split_equals b [] ≡ some c → T (valid_name c.before) → MoreText s w → AssignmentsText t ss → CommandText (token false 0 b ∷ (s ++ t)) (simple (assign c.before (put_before c.behind w) ss) no_words no_redirects)
    group_x : {s t : List Token} {l : CommandList} {ts : Redirects} → ClosedListText s l → RedirectsText t ts → CommandText (keyword kw_open ∷ (s ++ (keyword kw_close ∷ t))) (group l ts)
    subshell_x : {s t : List Token} {l : CommandList} {ts : Redirects} → ListText s l → RedirectsText t ts → CommandText (sign (codes "(") ∷ (s ++ (sign (codes ")") ∷ t))) (subshell l ts)
    if_x : {s t u v : List Token} {a b : CommandList} {e : ElsePart} {ts : Redirects} → ClosedListText s a → ClosedListText t b → ElseText u e → RedirectsText v ts → CommandText (keyword kw_if ∷ (s ++ (keyword kw_then ∷ (t ++ (u ++ v))))) (if a b e ts)
    while_x : {s t u : List Token} {a b : CommandList} {ts : Redirects} → ClosedListText s a → ClosedListText t b → RedirectsText u ts → CommandText (keyword kw_while ∷ (s ++ (keyword kw_do ∷ (t ++ (keyword kw_done ∷ u))))) (while a b ts)
    -- behind the words of a for stands one ; or one end of a line
    for_x : {x : Name} {p : Token} {s t u : List Token} {ws : Words} {l : CommandList} {ts : Redirects} → T (valid_name x) → WordsText s ws → Separator p → ClosedListText t l → RedirectsText u ts → CommandText (keyword kw_for ∷ keyword x ∷ keyword kw_in ∷ (s ++ (p ∷ keyword kw_do ∷ (t ++ (keyword kw_done ∷ u))))) (for x ws l ts)
    case_x : {s t u : List Token} {w : Word} {is : Arms} {ts : Redirects} → WordText s w → ArmsText t is → RedirectsText u ts → CommandText (keyword kw_case ∷ (s ++ (keyword kw_in ∷ (t ++ (keyword kw_esac ∷ u))))) (case w is ts)
    function_x : {x : Name} {s : List Token} {l : CommandList} → T (valid_name x && not (listed x reserved)) → ClosedListText s l → CommandText (keyword x ∷ sign (codes "(") ∷ sign (codes ")") ∷ keyword kw_open ∷ (s ++ (keyword kw_close ∷ []))) (function x l)

  -- what stands behind the list of a then, with its fi
  pub data ElseText : List Token → ElsePart → Type 0 where
    fi_x : ElseText (keyword kw_fi ∷ []) no_else
    else_x : {s : List Token} {l : CommandList} → ClosedListText s l → ElseText (keyword kw_else ∷ (s ++ (keyword kw_fi ∷ []))) (else l)
    elif_x : {s t u : List Token} {a b : CommandList} {e : ElsePart} → ClosedListText s a → ClosedListText t b → ElseText u e → ElseText (keyword kw_elif ∷ (s ++ (keyword kw_then ∷ (t ++ u)))) (else (next (first false (single (if a b e no_redirects))) false end))

  -- when word, one ; or one end of a line, a list, ;; and ends of lines between them
  pub data ArmsText : List Token → Arms → Type 0 where
    no_arms_x : ArmsText [] no_arms
    blank_arm_x : {t : List Token} {is : Arms} → ArmsText t is → ArmsText (sign (10 ∷ []) ∷ t) is
    arm_x : {p : Token} {s t u : List Token} {w : Word} {l : CommandList} {is : Arms} → WordText s w → Separator p → ListText t l → ArmsText u is → ArmsText (keyword kw_when ∷ (s ++ (p ∷ (t ++ (sign (codes ";;") ∷ u))))) (arm w l is)

  pub data PipelineText : List Token → Pipeline → Type 0 where
    single_x : {s : List Token} {c : Command} → CommandText s c → PipelineText s (single c)
    piped_x : {s t : List Token} {c : Command} {p : Pipeline} → CommandText s c → PipelineText t p → PipelineText (s ++ (sign (codes "|") ∷ t)) (piped c p)

  -- a pipeline with or without ! before it
  pub data NegatableText : List Token → Bool → Pipeline → Type 0 where
    plain_x : {s : List Token} {p : Pipeline} → PipelineText s p → NegatableText s false p
    negated_x : {s : List Token} {p : Pipeline} → PipelineText s p → NegatableText (keyword kw_not ∷ s) true p

  pub data AndOrText : List Token → AndOr → Type 0 where
    first_x : {s : List Token} {n : Bool} {p : Pipeline} → NegatableText s n p → AndOrText s (first n p)
    and_x : {s t : List Token} {a : AndOr} {n : Bool} {p : Pipeline} → AndOrText s a → NegatableText t n p → AndOrText (s ++ (sign (codes "&&") ∷ t)) (joined a true n p)
    or_x : {s t : List Token} {a : AndOr} {n : Bool} {p : Pipeline} → AndOrText s a → NegatableText t n p → AndOrText (s ++ (sign (codes "||") ∷ t)) (joined a false n p)

  -- a list in which every command is ended, before then, do, done, elif, else, fi and }
  pub data ClosedListText : List Token → CommandList → Type 0 where
    closed_end_x : ClosedListText [] end
    closed_blank_x : {t : List Token} {l : CommandList} → ClosedListText t l → ClosedListText (sign (10 ∷ []) ∷ t) l
    closed_next_x : {p : Token} {b : Bool} {s t : List Token} {a : AndOr} {l : CommandList} → AndOrText s a → Terminator p b → ClosedListText t l → ClosedListText (s ++ (p ∷ t)) (next a b l)

  -- a list whose last command need not be ended: a whole text, before ) and before ;;
  pub data ListText : List Token → CommandList → Type 0 where
    end_x : ListText [] end
    last_x : {s : List Token} {a : AndOr} → AndOrText s a → ListText s (next a false end)
    blank_x : {t : List Token} {l : CommandList} → ListText t l → ListText (sign (10 ∷ []) ∷ t) l
    next_x : {p : Token} {b : Bool} {s t : List Token} {a : AndOr} {l : CommandList} → AndOrText s a → Terminator p b → ListText t l → ListText (s ++ (p ∷ t)) (next a b l)

-- a text is a list of commands: its tokens are one, it has at most 16,384 bytes, and lists stand at most 32 deep in it
pub record Parses (t : List ℕ) (l : CommandList) : Type 0 where
  pub derived : ListText (tokens start t) l
  pub small : T (leb (length t) 16384 && leb (list_depth l) 32)
