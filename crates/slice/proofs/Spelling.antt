-- Words and their parts, as chains of cells.
use Rattle.std.proofs.Common.{◌≡◌, ℕ, zero, suc, ◌+◌, ◌≤◌, Bool, true, false, not, ◌&&◌, List, [], ◌∷◌, ◌++◌, length, get_or, take, drop, sym, refl, ap, ◌∙◌, subst, ⊎_elim, arith, rules}
use Rattle.std.specs.List.{list_all}
use Rattle.std.proofs.Math.Bool.{and-true}
use Rattle.std.proofs.lemmas.Bool.{eq-eqb, cases_Bool, both_ways, and_parts}
use Rattle.std.proofs.lemmas.Slice.Eq.{compares_Decides}
use Rattle.syntax.specs.Base.{same}
use Rattle.syntax.specs.Tree.{literal, parameter, substitution, Word, no_parts, and_part, Words, no_words, and_word}
use Rattle.code.specs.Cells.{bytes_at}
use Rattle.code.specs.Chains.{cells, chain_of, ends_at}
use Rattle.code.specs.Code.{BytesCode, WordCode, WordsCode}
use Rattle.code.proofs.Chains.{Chain, chain_bound, chain_ends, cells_end, cells_more}
use Rattle.slice.specs.Slice.{literals, all_literals, word_bytes, left_out, names_covered}
use Rattle.slice.specs.Says.{is_literal, literals_at, all_literals_at, spelled, WordsSays}

-- how many cells a word and words have
abbrev part_count : Word → ℕ
part_count no_parts = 0
part_count (and_part p w) = suc (part_count w)

abbrev word_count : Words → ℕ
word_count no_words = 0
word_count (and_word w ws) = suc (word_count ws)

-- a common front does not count
same_front : (s x y : List ℕ) → same (s ++ x) (s ++ y) ≡ same x y
same_front [] x y = refl
same_front (c ∷ s) x y = ap (λ b. b && same (s ++ x) (s ++ y)) (eq-eqb c c refl) ∙ same_front s x y

same_not : (xs ys : List ℕ) → (xs ≡ ys → ⊥) → same xs ys ≡ false
same_not xs ys d = ⊎_elim (λ e. absurd (d ((compares_Decides same (search rules) xs ys).0 e))) (λ e. e) (cases_Bool (same xs ys))

module _ (text words : List ℕ) where
  parts_chain : (a : ℕ) (w : Word) → WordCode text words a w → Chain words (part_count w) a
  parts_chain a no_parts h = h
  parts_chain a (and_part p w) h = (h.0, parts_chain (get_or words a 0) w h.2)

  words_chain : (a : ℕ) (ws : Words) → WordsCode text words a ws → Chain words (word_count ws) a
  words_chain a no_words h = h
  words_chain a (and_word w ws) h = (h.0, words_chain (get_or words a 0) ws h.2)

  parts_end : (a : ℕ) (w : Word) → WordCode text words a w → ends_at words a ≡ true
  parts_end a w h = chain_ends words (part_count w) a (parts_chain a w h)

  words_end : (a : ℕ) (ws : Words) → WordsCode text words a ws → ends_at words a ≡ true
  words_end a ws h = chain_ends words (word_count ws) a (words_chain a ws h)

  -- the cells of a word say whether it is of literals
  literals_in : (n a : ℕ) (w : Word) → part_count w ≤ n → WordCode text words a w → list_all (is_literal words) (cells words n a) ≡ literals w
  literals_in n a no_parts l h = ap (list_all (is_literal words)) (cells_end words n a h)
  literals_in zero a (and_part p w) l h = absurd (omega arith)
  literals_in (suc n) a (and_part (literal true s) w) l h = ap (list_all (is_literal words)) (cells_more words n a h.0) ∙ (let r = literals_in n (get_or words a 0) w (omega arith) h.2 in grind (arith, h.1.0))
  literals_in (suc n) a (and_part (literal false s) w) l h = ap (list_all (is_literal words)) (cells_more words n a h.0) ∙ (let r = literals_in n (get_or words a 0) w (omega arith) h.2 in grind (arith, h.1.0))
  literals_in (suc n) a (and_part (parameter true x) w) l h = ap (list_all (is_literal words)) (cells_more words n a h.0) ∙ grind (arith, h.1.0)
  literals_in (suc n) a (and_part (parameter false x) w) l h = ap (list_all (is_literal words)) (cells_more words n a h.0) ∙ grind (arith, h.1.0)
  literals_in (suc n) a (and_part (substitution true x) w) l h = ap (list_all (is_literal words)) (cells_more words n a h.0) ∙ grind (arith, h.1.0)
  literals_in (suc n) a (and_part (substitution false x) w) l h = ap (list_all (is_literal words)) (cells_more words n a h.0) ∙ grind (arith, h.1.0)

  pub literals_of : (a : ℕ) (w : Word) → WordCode text words a w → literals_at words a ≡ literals w
  literals_of a w h =
      ap (λ b. list_all (is_literal words) (chain_of words a) && b) (parts_end a w h)
      ∙ and-true (list_all (is_literal words) (chain_of words a))
      ∙ literals_in (length words + 1) a w (chain_bound words (part_count w) a (parts_chain a w h)) h

  bytes_here : (a : ℕ) (s : List ℕ) → BytesCode text words (a + 2) (a + 3) s → bytes_at text words (a + 2) ≡ s
  bytes_here a s h = let e : (a + 2) + 1 ≡ a + 3 = omega arith in ap (λ n. take (get_or words n 0) (drop (get_or words (a + 2) 0) text)) e ∙ h

  -- and they spell it
  spelled_in : (n a : ℕ) (w : Word) → part_count w ≤ n → WordCode text words a w → literals w ≡ true → spelled text words (cells words n a) ≡ word_bytes w
  spelled_in n a no_parts l h p = ap (spelled text words) (cells_end words n a h)
  spelled_in zero a (and_part q w) l h p = absurd (omega arith)
  spelled_in (suc n) a (and_part (literal q s) w) l h p = ap (spelled text words) (cells_more words n a h.0) ∙ (let r = spelled_in n (get_or words a 0) w (omega arith) h.2 p in cc (bytes_here a s h.1.1))
  spelled_in (suc n) a (and_part (parameter q x) w) l h p = absurd (both_ways false refl p)
  spelled_in (suc n) a (and_part (substitution q x) w) l h p = absurd (both_ways false refl p)

  spelled_of : (a : ℕ) (w : Word) → WordCode text words a w → literals w ≡ true → spelled text words (chain_of words a) ≡ word_bytes w
  spelled_of a w h p = spelled_in (length words + 1) a w (chain_bound words (part_count w) a (parts_chain a w h)) h p

  -- the cells of words say whether all are of literals
  abbrev all_in : ℕ → Bool
  all_in a = literals_at words (get_or words (a + 1) 0)

  all_literals_in : (n a : ℕ) (ws : Words) → word_count ws ≤ n → WordsCode text words a ws → list_all all_in (cells words n a) ≡ all_literals ws
  all_literals_in n a no_words l h = ap (list_all all_in) (cells_end words n a h)
  all_literals_in zero a (and_word w ws) l h = absurd (omega arith)
  all_literals_in (suc n) a (and_word w ws) l h = ap (list_all all_in) (cells_more words n a h.0) ∙ (let r = all_literals_in n (get_or words a 0) ws (omega arith) h.2 in cc (literals_of (get_or words (a + 1) 0) w h.1))

  pub all_literals_of : (a : ℕ) (ws : Words) → WordsCode text words a ws → all_literals_at words a ≡ all_literals ws
  all_literals_of a ws h =
      ap (λ b. list_all all_in (chain_of words a) && b) (words_end a ws h)
      ∙ and-true (list_all all_in (chain_of words a))
      ∙ all_literals_in (length words + 1) a ws (chain_bound words (word_count ws) a (words_chain a ws h)) h

  -- a part more of a name, of which `left` is left
  pub name_more : (a : ℕ) (xs ys left part after : List ℕ) → xs ≡ a ∷ ys → part ≡ bytes_at text words (a + 2) → left ≡ part ++ after → same (spelled text words xs) left ≡ same (spelled text words ys) after
  name_more a xs ys left part after e p f =
      let g : spelled text words xs ≡ part ++ spelled text words ys = ap (spelled text words) e ∙ ap (λ s. s ++ spelled text words ys) (sym p) in
      ap (λ s. same s left) g ∙ ap (same (part ++ spelled text words ys)) f ∙ same_front part (spelled text words ys) after

  pub name_other : (a : ℕ) (xs ys left part : List ℕ) → xs ≡ a ∷ ys → part ≡ bytes_at text words (a + 2) → ((after : List ℕ) → left ≡ part ++ after → ⊥) → same (spelled text words xs) left ≡ false
  name_other a xs ys left part e p f =
      let g : spelled text words xs ≡ part ++ spelled text words ys = ap (spelled text words) e ∙ ap (λ s. s ++ spelled text words ys) (sym p) in
      same_not (spelled text words xs) left (λ d. f (spelled text words ys) (sym d ∙ g))

  -- words that are run
  pub covered_none : (a : ℕ) → a ≡ 0 → WordsSays text words a true
  covered_none a z no_words h = refl
  covered_none a z (and_word w ws) h = absurd (omega (arith, h.0))

  pub covered_no : (a : ℕ) → all_literals_at words a ≡ false → WordsSays text words a false
  covered_no a e ws h = ap (λ x. x && names_covered ws) (sym e ∙ all_literals_of a ws h)

  pub covered_empty : (a p : ℕ) → (a ≡ 0 → ⊥) → all_literals_at words a ≡ true → p ≡ get_or words (a + 1) 0 → p ≡ 0 → WordsSays text words a false
  covered_empty a p z e f o no_words h = absurd (z h)
  covered_empty a p z e f o (and_word no_parts ws) h = ap (λ x. x && false) (sym e ∙ all_literals_of a (and_word no_parts ws) h)
  covered_empty a p z e f o (and_word (and_part q w) ws) h = absurd (omega (arith, h.1.0))

  pub covered_named : (a p : ℕ) (r : Bool) → (a ≡ 0 → ⊥) → all_literals_at words a ≡ true → p ≡ get_or words (a + 1) 0 → (p ≡ 0 → ⊥) → r ≡ left_out (spelled text words (chain_of words p)) → WordsSays text words a (not r)
  covered_named a p r z e f d o no_words h = absurd (z h)
  covered_named a p r z e f d o (and_word no_parts ws) h = absurd (d (f ∙ h.1))
  covered_named a p r z e f d o (and_word (and_part q w) ws) h =
      let t : (literals (and_part q w) && all_literals ws) ≡ true = sym (all_literals_of a (and_word (and_part q w) ws) h) ∙ e in
      let s : spelled text words (chain_of words p) ≡ word_bytes (and_part q w) = spelled_of p (and_part q w) (subst (λ x. WordCode text words x (and_part q w)) (sym f) h.1) (and_parts (literals (and_part q w)) (all_literals ws) t).0 in
      ap not (o ∙ ap left_out s) ∙ ap (λ x. x && not (left_out (word_bytes (and_part q w)))) (sym t)
