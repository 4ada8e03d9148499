-- Tokens as words: what a token is, as one number, and where its bytes stand in the text.
use Rattle.std.specs.Prelude.{◌≡◌, ℕ, zero, suc, ◌+◌, ◌*◌, ◌<◌, ◌≤◌, Bool, true, false, List, [], ◌∷◌, length, take, drop, codes, nat_le, slice_index, slice_index_or}
use Rattle.std.proofs.Math.Option.{Option, some, none}
use Rattle.syntax.specs.Base.{pick, Name, same, valid_name}
use Rattle.grammar.specs.Tokens.{Token, token, tokens, start}
use Rattle.grammar.specs.Grammar.{reserved, split_equals, Split}

-- where a name stands in a list of names; the list's length if it is not there
abbrev pub index_of : Name → List Name → ℕ
index_of b [] = 0
index_of b (k ∷ ks) = pick (same b k) 0 (suc (index_of b ks))

-- the signs, in the order of their codes
abbrev pub sign_names : List Name
sign_names = codes ";" ∷ (10 ∷ []) ∷ codes "&" ∷ codes "|" ∷ codes "<" ∷ codes ">" ∷ codes ">>" ∷ codes "<<" ∷ codes "(" ∷ codes ")" ∷ codes "&&" ∷ codes "||" ∷ codes ";;" ∷ []

-- a bare word: 16 + its index for a keyword, 64 + the length of the name for name=.., 46 for a valid name, 0 for any other
abbrev pub assignment_code : Option Split → ℕ → ℕ
assignment_code none d = d
assignment_code (some c) d = pick (valid_name c.before) (64 + length c.before) d

abbrev pub word_code : ℕ → List ℕ → ℕ
word_code k b = pick (nat_le 16 k) (assignment_code (split_equals b []) (pick (valid_name b) 46 0)) (16 + k)

unfoldable pub keyword_index : List ℕ → ℕ
keyword_index b = index_of b reserved

unfoldable pub bare_code : List ℕ → ℕ
bare_code b = word_code (keyword_index b) b

unfoldable pub sign_code : List ℕ → ℕ
sign_code b = 32 + index_of b sign_names

abbrev pub substitution_code : ℕ → List ℕ → ℕ
substitution_code k [] = k
substitution_code k (c ∷ cs) = 4

-- 0 to 7: a token that is not joined, by its kind; 8 to 15: one that is joined; 32 to 45: a sign
abbrev pub token_code_of : Bool → ℕ → List ℕ → ℕ
token_code_of false zero b = bare_code b
token_code_of false (suc zero) b = 1
token_code_of false (suc (suc zero)) b = 2
token_code_of false (suc (suc (suc zero))) b = 3
token_code_of false (suc (suc (suc (suc zero)))) b = sign_code b
token_code_of false (suc (suc (suc (suc (suc zero))))) b = substitution_code 5 b
token_code_of false (suc (suc (suc (suc (suc (suc zero)))))) b = substitution_code 6 b
token_code_of false (suc (suc (suc (suc (suc (suc (suc t))))))) b = 7
token_code_of true zero b = 8
token_code_of true (suc zero) b = 9
token_code_of true (suc (suc zero)) b = 10
token_code_of true (suc (suc (suc zero))) b = 11
token_code_of true (suc (suc (suc (suc zero)))) b = 12
token_code_of true (suc (suc (suc (suc (suc zero))))) b = 8 + substitution_code 5 b
token_code_of true (suc (suc (suc (suc (suc (suc zero)))))) b = 8 + substitution_code 6 b
token_code_of true (suc (suc (suc (suc (suc (suc (suc t))))))) b = 15

abbrev pub token_code : Token → ℕ
token_code p = token_code_of p.joined p.kind p.bytes

-- n bytes from s on are the token's
abbrev pub Spelled : List ℕ → ℕ → ℕ → Token → Type 0
Spelled t s n p = p.kind ≤ 3 → take n (drop s t) ≡ p.bytes

-- it starts within the text, and its bytes lie there
abbrev pub Within : List ℕ → ℕ → ℕ → Token → Type 0
Within t s n p = (s ≤ length t) × (p.kind ≤ 3 → s + n ≤ length t)

abbrev pub TokenAt : List ℕ → Token → List ℕ → ℕ → Type 0
TokenAt t p m a = (slice_index m a ≡ token_code p) × Spelled t (slice_index m (a + 1)) (slice_index m (a + 2)) p × Within t (slice_index m (a + 1)) (slice_index m (a + 2)) p

-- the token i stands at 3 * i + 3
abbrev pub TokensAt : List ℕ → List Token → List ℕ → Type 0
TokensAt t ps m = (k : ℕ) → k < length ps → TokenAt t (slice_index_or ps k (token false 0 [])) m (3 * k + 3)

-- all tokens of a text, and those from one on
unfoldable pub tokens_of : List ℕ → List Token
tokens_of t = tokens start t

abbrev pub tokens_from : List ℕ → ℕ → List Token
tokens_from t i = drop i (tokens_of t)

-- the code of the first; 47 where there is none
abbrev pub code_at : List Token → ℕ
code_at [] = 47
code_at (p ∷ r) = token_code p

-- the words hold the n tokens of a text
pub record Has (t : List ℕ) (n : ℕ) (m : List ℕ) : Type 0 where
  pub count : length (tokens_of t) ≡ n
  pub stored : TokensAt t (tokens_of t) m
