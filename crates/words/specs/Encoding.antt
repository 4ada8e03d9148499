-- Words being expanded and text to print, as lists of words.
use Rattle.std.specs.Prelude.{ℕ, ◌+◌, ◌*◌, ◌%◌, ◌<◌, Bool, true, false, not, ◌&&◌, ◌||◌, List, [], ◌∷◌, ◌++◌, drop, ◌==◌, nat_le, slice_index}
use Rattle.std.proofs.Math.Option.{Option, some, none}
use Rattle.syntax.specs.Base.{pick}
use Rattle.code.specs.Layout.{flag}
use Rattle.meaning.specs.System.{QuotedByte}
use Rattle.meaning.specs.Words.{bytes_of, has_pattern}

abbrev pub at : List ℕ → ℕ → ℕ
at code a = slice_index code a

-- a byte as it is, 256 more from quotes
abbrev pub encoded : List QuotedByte → List ℕ
encoded [] = []
encoded (c ∷ cs) = (c.byte + 256 * flag c.quoted) ∷ encoded cs

-- bytes of a literal, whose tag f is 1 in quotes
abbrev pub coded : ℕ → List ℕ → List ℕ
coded f [] = []
coded f (b ∷ bs) = (b + 256 * f) ∷ coded f bs

-- words: a mark (512) before each
abbrev pub marked : List (List QuotedByte) → List ℕ
marked [] = []
marked (d ∷ ds) = 512 ∷ (encoded d ++ marked ds)

abbrev pub plain : List (List QuotedByte) → List (List ℕ)
plain [] = []
plain (d ∷ ds) = bytes_of d ∷ plain ds

abbrev pub Bytes : List ℕ → Type 0
Bytes [] = Unit {0}
Bytes (b ∷ bs) = (b < 256) × Bytes bs

abbrev pub Small : List QuotedByte → Type 0
Small [] = Unit {0}
Small (c ∷ cs) = (c.byte < 256) × Small cs

abbrev pub AllSmall : List (List QuotedByte) → Type 0
AllSmall [] = Unit {0}
AllSmall (d ∷ ds) = Small d × AllSmall ds

-- whether a word is open
abbrev pub opened : Option (List QuotedByte) → Bool
opened none = false
opened (some f) = true

-- a part that opens a word puts a mark before it
abbrev pub mark : Bool → List ℕ
mark true = []
mark false = 512 ∷ []

-- whether * or ? stands there outside quotes
abbrev pub patterned : List ℕ → Bool
patterned [] = false
patterned (w ∷ ws) = (w == 42 || w == 63) || patterned ws

abbrev pub any_pattern : List (List QuotedByte) → Bool
any_pattern [] = false
any_pattern (d ∷ ds) = has_pattern d || any_pattern ds

-- words read off: whether the first is this name; as text, blanks for marks
abbrev pub named : List ℕ → List ℕ → Bool
named [] [] = true
named [] (b ∷ bs) = false
named (w ∷ ws) [] = nat_le 512 w
named (w ∷ ws) (b ∷ bs) = not (nat_le 512 w) && (w % 256 == b && named ws bs)

abbrev pub shown : List ℕ → List ℕ
shown [] = []
shown (w ∷ ws) = pick (nat_le 512 w) 32 (w % 256) ∷ shown ws

abbrev pub rev : List ℕ → List ℕ
rev [] = []
rev (b ∷ bs) = rev bs ++ (b ∷ [])

-- how many words stand before the next mark
abbrev pub word_length : List ℕ → ℕ
word_length [] = 0
word_length (w ∷ ws) = pick (nat_le 512 w) 0 (1 + word_length ws)

-- where the first argument begins, with its mark
abbrev pub second : List ℕ → ℕ
second ws = 1 + word_length (drop 1 ws)
