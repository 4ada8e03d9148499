-- Runs of bytes, and what bare words are.
use Rattle.std.proofs.Common.{◌≡◌, ℕ, suc, ◌+◌, ◌<◌, ◌≤◌, Bool, true, false, not, ◌&&◌, ◌||◌, ◌==◌, cond, eqb, ltb, leb, List, [], ◌∷◌, ◌++◌, length, get_or, map, take, drop, unwrap_or, Decides, Some, None, MatchOption, position, sym, refl, ap, ◌∙◌, subst, arith, rules}
use mathlib.Core.Option.{some, none}
use Rattle.std.specs.declared.option.Option.{Option}
use Rattle.std.specs.List.{find, list_all, position_or_len, prefix_len, take_while}
use Rattle.std.proofs.lemmas.List.{append-nil, append_assoc, drop_more, drop-drop, length-drop, length-take-le}
use Rattle.std.proofs.lemmas.List.Sums.{prefix_len-le-length}
use Rattle.std.proofs.lemmas.List.Folds.{length-prefix_len}
use Rattle.std.proofs.lemmas.Bool.{and_parts, le-leb, leb-true, lt-leb, ltb-false}
use Rattle.std.proofs.lemmas.Bool.Decides.{same_from_decides}
use Rattle.std.proofs.lemmas.Slice.Eq.{compares_Decides}
use Rattle.syntax.specs.Base.{pick, same, letter, digit, name_bytes, valid_name}
use Rattle.grammar.specs.Grammar.{split_equals}
use Rattle.grammar.proofs.Fit.{by_bool}
use Rattle.lexer.specs.declared.token.Keyword.{Keyword}
use Rattle.lexer.specs.declared.token.TheConstants.Keyword.{ALL as all_keywords}
use Rattle.lexer.specs.Codes.{keyword_code, keyword_name}
use Rattle.lexer.specs.Stored.{index_of, keyword_index, bare_code}
use Rattle.lexer.proofs.Lex.{run_of, after}

pub decides_same : (xs ys : List ℕ) (r : Bool) → Decides r (xs ≡ ys) → r ≡ same xs ys
decides_same xs ys r h = same_from_decides r (same xs ys) h (compares_Decides same (search rules) xs ys)

one_more : (n : ℕ) → 1 + n ≡ suc n
one_more n = omega arith

-- a run ends before the first byte that passes
pub run_is : (f : ℕ → Bool) (xs : List ℕ) → run_of f xs ≡ take (position_or_len f xs) xs
run_is f [] = refl
run_is f (c ∷ cs) = by_bool (λ b. pick b [] (c ∷ run_of f cs) ≡ take (cond (not b) (1 + position_or_len f cs) 0) (c ∷ cs)) (f c) (λ e. refl) (λ e. rw (one_more (position_or_len f cs), run_is f cs))

pub after_is : (f : ℕ → Bool) (xs : List ℕ) → after f xs ≡ drop (position_or_len f xs) xs
after_is f [] = refl
after_is f (c ∷ cs) = by_bool (λ b. pick b (c ∷ cs) (after f cs) ≡ drop (cond (not b) (1 + position_or_len f cs) 0) (c ∷ cs)) (f c) (λ e. refl) (λ e. rw (one_more (position_or_len f cs), after_is f cs))

pub name_bytes_is : (cs : List ℕ) → name_bytes cs ≡ list_all (λ c. letter c || digit c) cs
name_bytes_is [] = refl
name_bytes_is (c ∷ cs) = ap (λ b. (letter c || digit c) && b) (name_bytes_is cs)

-- where a byte is found, and what it means that there is none
pub found : (f : ℕ → Bool) (xs : List ℕ) (n : ℕ) → Some n ≡ position f xs → (n ≡ position_or_len f xs) × (n < length xs)
found f xs n e = by_bool (λ b. ltb (position_or_len f xs) (length xs) ≡ b → Some n ≡ cond b (Some (position_or_len f xs)) None → (n ≡ position_or_len f xs) × (n < length xs)) (ltb (position_or_len f xs) (length xs)) (λ b x y. search rules) (λ b x y. search rules) refl e

pub missing : (f : ℕ → Bool) (xs : List ℕ) → None ≡ position f xs → length xs ≤ position_or_len f xs
missing f xs e = by_bool (λ b. ltb (position_or_len f xs) (length xs) ≡ b → None ≡ cond b (Some (position_or_len f xs)) None → length xs ≤ position_or_len f xs) (ltb (position_or_len f xs) (length xs)) (λ b x y. search rules) (λ b x y. search rules) refl e

-- what stands before an =
cut_some : (xs acc : List ℕ) → position_or_len (λ c. c == 61) xs < length xs → split_equals xs acc ≡ some (record { before = acc ++ take (position_or_len (λ c. c == 61) xs) xs; behind = drop (suc (position_or_len (λ c. c == 61) xs)) xs })
cut_some [] acc h = absurd (omega arith)
cut_some (c ∷ cs) acc h = by_bool (λ b. cond (not b) (1 + position_or_len (λ c. c == 61) cs) 0 < suc (length cs) → pick b (some (record { before = acc; behind = cs })) (split_equals cs (acc ++ (c ∷ []))) ≡ some (record { before = acc ++ take (cond (not b) (1 + position_or_len (λ c. c == 61) cs) 0) (c ∷ cs); behind = drop (suc (cond (not b) (1 + position_or_len (λ c. c == 61) cs) 0)) (c ∷ cs) })) (eqb c 61) (λ e k. rw (append-nil acc)) (λ e k. cut_some cs (acc ++ (c ∷ [])) (omega arith) ∙ rw (one_more (position_or_len (λ c. c == 61) cs), append_assoc acc (c ∷ []) (take (position_or_len (λ c. c == 61) cs) cs))) h

cut_none : (xs acc : List ℕ) → length xs ≤ position_or_len (λ c. c == 61) xs → split_equals xs acc ≡ none
cut_none [] acc h = refl
cut_none (c ∷ cs) acc h = by_bool (λ b. suc (length cs) ≤ cond (not b) (1 + position_or_len (λ c. c == 61) cs) 0 → pick b (some (record { before = acc; behind = cs })) (split_equals cs (acc ++ (c ∷ []))) ≡ none) (eqb c 61) (λ e k. absurd (omega arith)) (λ e k. cut_none cs (acc ++ (c ∷ [])) (omega arith)) h

pub name_short : (b : List ℕ) → valid_name b ≡ true → length b ≤ 32
name_short [] e = omega arith
name_short (c ∷ cs) e = omega (arith, leb-true (length cs) 31 (and_parts (name_bytes cs) _ (and_parts (letter c) _ e).1).1)

-- the numbers that f gives count up from n
abbrev pub Counts : {A : Type 0} → (A → ℕ) → List A → ℕ → Type 0
Counts f [] n = Unit {0}
Counts f (x ∷ xs) n = (f x ≡ n) × Counts f xs (suc n)

abbrev At : List ℕ → List Keyword → ℕ → Option Keyword → Type 0
At b ks n o = MatchOption o (index_of b (map keyword_name ks) ≡ length ks) (λ k. (keyword_code k ≡ n + index_of b (map keyword_name ks)) × (index_of b (map keyword_name ks) < length ks))

-- where a keyword stands among keywords whose codes count up says its code
place : (b : List ℕ) (ks : List Keyword) (n : ℕ) → Counts keyword_code ks n → At b ks n (find (λ k. same b (keyword_name k)) ks)
place b [] n h = refl
place b (k ∷ ks) n h = by_bool (λ s. MatchOption (cond s (Some k) (find (λ x. same b (keyword_name x)) ks)) (pick s 0 (suc (index_of b (map keyword_name ks))) ≡ suc (length ks)) (λ x. (keyword_code x ≡ n + pick s 0 (suc (index_of b (map keyword_name ks)))) × (pick s 0 (suc (index_of b (map keyword_name ks))) < suc (length ks)))) (same b (keyword_name k)) (λ e. (omega (arith, h.0), omega arith)) (λ e. behind_one (find (λ x. same b (keyword_name x)) ks) (place b ks (suc n) h.1))
  where
    behind_one : (o : Option Keyword) → At b ks (suc n) o → MatchOption o (suc (index_of b (map keyword_name ks)) ≡ suc (length ks)) (λ x. (keyword_code x ≡ n + suc (index_of b (map keyword_name ks))) × (suc (index_of b (map keyword_name ks)) < suc (length ks)))
    behind_one None p = ap suc p
    behind_one (Some x) p = (omega (arith, p.0), omega (arith, p.1))

-- what a bare word is: a keyword, an assignment, a valid name or any other word
module _ (b : List ℕ) where
  pub key_code : keyword_index b < 16 → 16 + keyword_index b ≡ bare_code b
  unfolding bare_code
  key_code h = rw (lt-leb 16 (keyword_index b) h)

  pub keyword_is : (k : Keyword) → Some k ≡ find (λ k. same b (keyword_name k)) all_keywords → keyword_code k ≡ bare_code b
  unfolding keyword_index
  keyword_is k e = let q : At b all_keywords 16 (Some k) = subst (At b all_keywords 16) (sym e) (place b all_keywords 16 (search rules)) in q.0 ∙ key_code q.1

  pub no_keyword : None ≡ find (λ k. same b (keyword_name k)) all_keywords → 16 ≤ keyword_index b
  unfolding keyword_index
  no_keyword e = let q : At b all_keywords 16 None = subst (At b all_keywords 16) (sym e) (place b all_keywords 16 (search rules)) in omega (arith, q)

  pub assignment_is : (n : ℕ) → 16 ≤ keyword_index b → Some n ≡ position (λ c. c == 61) b → valid_name (take n b) ≡ true → 64 + n ≡ bare_code b
  unfolding bare_code
  assignment_is n h k v = let q = found (λ c. c == 61) b n k in rw (le-leb 16 (keyword_index b) h, cut_some b [] (omega arith), ← q.0, v, length-take-le n b (omega arith))

  pub name_before : (n : ℕ) → Some n ≡ position (λ c. c == 61) b → valid_name (take n b) ≡ true → n ≤ 32
  name_before n k v = omega (arith, name_short (take n b) v, length-take-le n b (omega (arith, (found (λ c. c == 61) b n k).1)))

  pub plain_is : (n : ℕ) → 16 ≤ keyword_index b → Some n ≡ position (λ c. c == 61) b → valid_name (take n b) ≡ false → pick (valid_name b) 46 0 ≡ bare_code b
  unfolding bare_code
  plain_is n h k v = let q = found (λ c. c == 61) b n k in rw (le-leb 16 (keyword_index b) h, cut_some b [] (omega arith), ← q.0, v)

  pub plain_without : 16 ≤ keyword_index b → None ≡ position (λ c. c == 61) b → pick (valid_name b) 46 0 ≡ bare_code b
  unfolding bare_code
  plain_without h k = rw (le-leb 16 (keyword_index b) h, cut_none b [] (missing (λ c. c == 61) b k))

pub first_or_end : (f : ℕ → Bool) (xs : List ℕ) → unwrap_or (position f xs) (length xs) ≡ position_or_len f xs
first_or_end f xs = by_bool (λ b. ltb (position_or_len f xs) (length xs) ≡ b → unwrap_or (cond b (Some (position_or_len f xs)) None) (length xs) ≡ position_or_len f xs) (ltb (position_or_len f xs) (length xs)) (λ b x. refl) (λ b x. omega (arith, prefix_len-le-length (λ c. not (f c)) xs, ltb-false (position_or_len f xs) (length xs) x)) refl

-- a run of bytes from i on whose first byte is one of it
module _ (f : ℕ → Bool) (t : List ℕ) (i n : ℕ) (h : i < length t) (e : f (get_or t i 0) ≡ false) (k : n ≡ position_or_len f (drop i t)) where
  pub run_bytes : take n (drop i t) ≡ get_or t i 0 ∷ run_of f (drop (i + 1) t)
  run_bytes = ap (λ m. take m (drop i t)) k ∙ (sym (run_is f (drop i t)) ∙ rw (drop_more t i 0 h, e))

  pub run_rest : after f (drop (i + 1) t) ≡ drop (i + n) t
  run_rest = rw (← e2) (after_is f (drop i t) ∙ (drop-drop (position_or_len f (drop i t)) i t ∙ ap (λ m. drop (i + m) t) (sym k)))
    where
      e2 : after f (drop i t) ≡ after f (drop (i + 1) t)
      e2 = rw (drop_more t i 0 h, e)

  pub run_some : 0 < n
  run_some = rw (k, drop_more t i 0 h, e) (omega arith)

  pub run_within : i + n ≤ length t
  run_within = omega (arith, k, prefix_len-le-length (λ c. not (f c)) (drop i t), length-drop i t)

-- the length of what a run takes
pub run_len : (f : ℕ → Bool) (xs : List ℕ) (n : ℕ) → n ≡ length (take_while (λ c. not (f c)) xs) → n ≡ position_or_len f xs
run_len f xs n e = e ∙ length-prefix_len (λ c. not (f c)) xs

prefix_same : (p q : ℕ → Bool) → ((c : ℕ) → p c ≡ q c) → (xs : List ℕ) → prefix_len p xs ≡ prefix_len q xs
prefix_same p q h [] = refl
prefix_same p q h (c ∷ cs) = rw (h c, prefix_same p q h cs)

not_not : (b : Bool) → b ≡ not (not b)
not_not true = refl
not_not false = refl

pub kept_len : (p : ℕ → Bool) (xs : List ℕ) (n : ℕ) → n ≡ length (take_while p xs) → n ≡ position_or_len (λ c. not (p c)) xs
kept_len p xs n e = e ∙ (length-prefix_len p xs ∙ prefix_same p (λ c. not (not (p c))) (λ c. not_not (p c)) xs)

-- names that the reader's proofs use
pub leb_no : (m n : ℕ) → n < m → leb m n ≡ false
leb_no m n h = lt-leb m n h

pub leb_yes : (m n : ℕ) → m ≤ n → leb m n ≡ true
leb_yes m n h = le-leb m n h
