-- Words: numbers as text, splitting at blanks, patterns, what parameters stand for, and the tests of test.
use Rattle.std.specs.Prelude.{Bool, true, false, ◌&&◌, ◌||◌, not, List, [], ◌∷◌, ◌++◌, ℕ, zero, suc, ◌+◌, ◌-◌, ◌*◌, ◌/◌, ◌%◌, codes, length, eqb, ltb, leb}
use Rattle.std.proofs.Math.Option.{Option, some, none}
use Rattle.syntax.specs.Base.{pick, opt, nth, Name, same}
use Rattle.syntax.specs.Tree.{Word, no_parts, Words, no_words, and_word}
use Rattle.meaning.specs.System.{QuotedByte, File, Expansion, Process, System, find_file, variable}

-- a number as decimal digits
abbrev pub digits : ℕ → ℕ → List ℕ → List ℕ
digits zero n ds = ds
digits (suc d) n ds =
    let r = digits d (n / 10) ((48 + n % 10) ∷ ds) in
    pick (ltb n 10) ((48 + n % 10) ∷ ds) r

abbrev pub decimal : ℕ → List ℕ
decimal n = digits (suc n) n []

abbrev pub digits_value : ℕ → List ℕ → Option ℕ
digits_value n [] = some n
digits_value n (c ∷ cs) = pick (leb 48 c && leb c 57) (digits_value (n * 10 + (c - 48)) cs) none

-- a number is 1 to 9 digits
abbrev pub number : List ℕ → Option ℕ
number s = pick (leb 1 (length s) && leb (length s) 9) (digits_value 0 s) none

-- a space, the end of a line, a tab
abbrev pub is_blank : ℕ → Bool
is_blank c = eqb c 32 || (eqb c 10 || eqb c 9)

abbrev pub quote_bytes : Bool → List ℕ → List QuotedByte
quote_bytes q [] = []
quote_bytes q (b ∷ bs) = record { byte = b; quoted = q } ∷ quote_bytes q bs

abbrev pub so_far : Option (List QuotedByte) → List QuotedByte
so_far none = []
so_far (some f) = f

abbrev pub bytes_of : List QuotedByte → List ℕ
bytes_of [] = []
bytes_of (c ∷ cs) = c.byte ∷ bytes_of cs

-- splitting at blanks: the word that is open, if one is, and the complete ones
pub record SplitWord : Type 0 where
  pub current : Option (List QuotedByte)
  pub complete : List (List QuotedByte)

abbrev pub close_word : Option (List QuotedByte) → List (List QuotedByte) → List (List QuotedByte)
close_word none ds = ds
close_word (some f) ds = ds ++ (f ∷ [])

-- a blank closes the word; where there is nothing there is no word
abbrev pub split_blanks : List ℕ → Option (List QuotedByte) → List (List QuotedByte) → SplitWord
split_blanks [] f ds = record { current = f; complete = ds }
split_blanks (b ∷ bs) f ds =
    pick (is_blank b) (split_blanks bs none (close_word f ds))
    (split_blanks bs (some (so_far f ++ (record { byte = b; quoted = false } ∷ []))) ds)

abbrev pub any_tail : (List ℕ → Bool) → List ℕ → Bool
any_tail f [] = f []
any_tail f (b ∷ bs) = f (b ∷ bs) || any_tail f bs

-- ? outside quotes is any byte, another byte is itself
abbrev pub match_one : QuotedByte → (List ℕ → Bool) → List ℕ → Bool
match_one c f [] = false
match_one c f (x ∷ xs) = ((not c.quoted && eqb c.byte 63) || eqb c.byte x) && f xs

-- * outside quotes is any bytes
abbrev pub matches : List QuotedByte → List ℕ → Bool
matches [] [] = true
matches [] (b ∷ bs) = false
matches (c ∷ cs) bs = pick (not c.quoted && eqb c.byte 42) (any_tail (matches cs) bs) (match_one c (matches cs) bs)

abbrev pub has_pattern : List QuotedByte → Bool
has_pattern [] = false
has_pattern (c ∷ cs) = (not c.quoted && (eqb c.byte 42 || eqb c.byte 63)) || has_pattern cs

abbrev pub matching_names : List QuotedByte → List File → List (List ℕ)
matching_names p [] = []
matching_names p (f ∷ fs) = pick (matches p f.name) (f.name ∷ matching_names p fs) (matching_names p fs)

abbrev pub or_literal : List QuotedByte → List (List ℕ) → List (List ℕ)
or_literal p [] = bytes_of p ∷ []
or_literal p (x ∷ xs) = x ∷ xs

-- a word with * or ? outside quotes becomes the names of all files that match, oldest first, if there are any
abbrev pub pathnames : List File → List QuotedByte → List (List ℕ)
pathnames fs p = pick (has_pattern p) (or_literal p (matching_names p fs)) (bytes_of p ∷ [])

abbrev pub all_pathnames : List File → List (List QuotedByte) → List (List ℕ)
all_pathnames fs [] = []
all_pathnames fs (p ∷ ps) = pathnames fs p ++ all_pathnames fs ps

-- $1 to $9 are the arguments; $0 and one that isn't there are nothing
abbrev pub argument : List (List ℕ) → ℕ → List ℕ
argument as₁ zero = []
argument as₁ (suc n) = opt (nth as₁ n) [] (λ a. a)

-- $? is the last status, $# how many arguments there are; any other name is a variable
abbrev pub parameter_value : Process → Name → List ℕ
parameter_value w [] = []
parameter_value w (c ∷ cs) =
    pick (eqb c 63) (decimal w.status)
    (pick (eqb c 35) (decimal (length w.arguments))
    (pick (leb 48 c && leb c 57) (argument w.arguments (c - 48))
    (variable w.variables (c ∷ cs))))

-- words of which nothing is expanded yet
abbrev pub expand_words : Words → Bool → Expansion
expand_words no_words b = record { words = no_words; parts = no_parts; current = none; complete = []; split = b }
expand_words (and_word w ws) b = record { words = ws; parts = w; current = none; complete = []; split = b }

-- one word, whose values are not split
abbrev pub expand_word : Word → Expansion
expand_word w = record { words = no_words; parts = w; current = none; complete = []; split = false }

-- a value comes into a word: outside quotes it is split where values are split; in quotes, also empty ones, it makes
-- a word be there
abbrev pub insert_value : Expansion → Bool → List ℕ → Expansion
insert_value x q v =
    pick (x.split && not q)
    (let r = split_blanks v x.current x.complete in
    record { words = x.words; parts = x.parts; current = r.current; complete = r.complete; split = x.split })
    (record { words = x.words; parts = x.parts; current = some (so_far x.current ++ quote_bytes q v); complete = x.complete; split = x.split })

abbrev pub with_parts : Expansion → Word → Expansion
with_parts x w = record { words = x.words; parts = w; current = x.current; complete = x.complete; split = x.split }

abbrev pub first_bytes : List (List QuotedByte) → List ℕ
first_bytes [] = []
first_bytes (f ∷ fs) = bytes_of f

abbrev pub first_quoted : List (List QuotedByte) → List QuotedByte
first_quoted [] = []
first_quoted (f ∷ fs) = f

-- words with blanks between them
abbrev pub join_words : List (List ℕ) → List ℕ
join_words [] = []
join_words (a ∷ []) = a
join_words (a ∷ b ∷ as₁) = a ++ (32 ∷ join_words (b ∷ as₁))

abbrev pub as_line : List ℕ → List ℕ
as_line l = l ++ (10 ∷ [])

abbrev pub contains : List ℕ → List ℕ → Bool
contains p s = any_tail (begins p) s
  where
    begins : List ℕ → List ℕ → Bool
    begins [] t = true
    begins (x ∷ xs) [] = false
    begins (x ∷ xs) (y ∷ ys) = eqb x y && begins xs ys

-- the first word, or a default
abbrev pub first_or : List ℕ → List (List ℕ) → List ℕ
first_or d [] = d
first_or d (a ∷ as₁) = a

abbrev pub tail_of : List (List ℕ) → List (List ℕ)
tail_of [] = []
tail_of (a ∷ as₁) = as₁

-- true is 0, false 1
abbrev pub status_of : Bool → ℕ
status_of b = pick b 0 1

-- test: a = b and a != b compare bytes, a -lt b and a -eq b numbers; -n a: not empty; -e a: there is such a file.
-- A test that is none of these, and a number that is none, have status 2
abbrev pub op_equal : Name
op_equal = codes "="

abbrev pub op_unequal : Name
op_unequal = codes "!="

abbrev pub op_less : Name
op_less = codes "-lt"

abbrev pub op_same_number : Name
op_same_number = codes "-eq"

abbrev pub op_nonempty : Name
op_nonempty = codes "-n"

abbrev pub op_exists : Name
op_exists = codes "-e"

abbrev pub test2 : System → Name → List ℕ → ℕ
test2 s o a =
    pick (same o op_nonempty) (status_of (not (same a [])))
    (pick (same o op_exists) (opt (find_file s.files a) 1 (λ b. 0))
    2)

abbrev pub compare_numbers : (ℕ → ℕ → Bool) → List ℕ → List ℕ → ℕ
compare_numbers f a b = opt (number a) 2 (λ m. opt (number b) 2 (λ n. status_of (f m n)))

abbrev pub test3 : List ℕ → Name → List ℕ → ℕ
test3 a o b =
    pick (same o op_equal) (status_of (same a b))
    (pick (same o op_unequal) (status_of (not (same a b)))
    (pick (same o op_less) (compare_numbers ltb a b)
    (pick (same o op_same_number) (compare_numbers eqb a b)
    2)))

abbrev pub test_status : System → List (List ℕ) → ℕ
test_status s [] = 1
test_status s (a ∷ []) = status_of (not (same a []))
test_status s (o ∷ a ∷ []) = test2 s o a
test_status s (a ∷ o ∷ b ∷ []) = test3 a o b
test_status s (a ∷ b ∷ c ∷ d ∷ as₁) = 2
