-- Words under expansion: what the first one will be, and that no * or ? stands outside quotes.
use mathlib.Core.Path.{◌≡◌, refl, sym, ◌∙◌, ap, subst}
use mathlib.Core.Bool.{Bool, true, false, ◌&&◌, ◌||◌, not}
use mathlib.Core.List.{List, [], ◌∷◌, ◌++◌, append-nil, append_assoc}
use mathlib.Core.Option.{Option, some, none}
use Prim.Native.Nat.{ℕ}
use lib.Dec.{eqb}
use Rattle.syntax.specs.Base.{pick}
use Rattle.syntax.specs.Tree.{literal, Word, no_parts, and_part, Words, no_words, and_word}
use Rattle.meaning.specs.System.{QuotedByte, File}
use Rattle.meaning.specs.Words.{quote_bytes, so_far, bytes_of, close_word, has_pattern, or_literal, matching_names, all_pathnames}
use Rattle.slice.specs.Slice.{word_bytes, left_out}
use Rattle.within.proofs.Covered.{PlainWord, PlainWords, Named}

abbrev pub Plain : List (List QuotedByte) → Type 0
Plain [] = Unit {0}
Plain (d ∷ ds) = (has_pattern d ≡ false) × Plain ds

-- the first word, if there is one, is not left out
abbrev pub Runs : List (List ℕ) → Type 0
Runs [] = Unit {0}
Runs (x ∷ as₁) = left_out x ≡ false

-- nor is the first of these, with the parts of the open one and the words to come
abbrev pub Leads : List (List QuotedByte) → Option (List QuotedByte) → Word → Words → Type 0
Leads (d ∷ ds) o v vs = left_out (bytes_of d) ≡ false
Leads [] (some f) v vs = left_out (bytes_of f ++ word_bytes v) ≡ false
Leads [] none (and_part p v) vs = left_out (word_bytes (and_part p v)) ≡ false
Leads [] none no_parts no_words = Unit {0}
Leads [] none no_parts (and_word v vs) = ⊥

-- the complete words, the open one, its parts to come, the words to come
pub record Expands (ds : List (List QuotedByte)) (o : Option (List QuotedByte)) (v : Word) (vs : Words) : Type 0 where
  pub complete : Plain ds
  pub current : has_pattern (so_far o) ≡ false
  pub parts : PlainWord v
  pub words : PlainWords vs
  pub leads : Leads ds o v vs

bytes_append : (f g : List QuotedByte) → bytes_of (f ++ g) ≡ bytes_of f ++ bytes_of g
bytes_append [] g = refl
bytes_append (c ∷ f) g = ap (λ r. c.byte ∷ r) (bytes_append f g)

bytes_quoted : (q : Bool) (s : List ℕ) → bytes_of (quote_bytes q s) ≡ s
bytes_quoted q [] = refl
bytes_quoted q (b ∷ s) = ap (λ r. b ∷ r) (bytes_quoted q s)

pub or_both : (a b : Bool) → a || b ≡ false → (a ≡ false) × (b ≡ false)
or_both true b e = (e, cc)
or_both false b e = (refl, e)

pattern_append : (f g : List QuotedByte) → has_pattern f ≡ false → has_pattern g ≡ false → has_pattern (f ++ g) ≡ false
pattern_append [] g e h = h
pattern_append (c ∷ f) g e h =
    let p = or_both (not c.quoted && (eqb c.byte 42 || eqb c.byte 63)) (has_pattern f) e in
    rw p.0 (pattern_append f g p.1 h)

plain_close : (ds : List (List QuotedByte)) (o : Option (List QuotedByte)) → Plain ds → has_pattern (so_far o) ≡ false → Plain (close_word o ds)
plain_close ds none p e = p
plain_close [] (some f) p e = (e, tt)
plain_close (d ∷ ds) (some f) p e = (p.0, plain_close ds (some f) p.1 e)

-- the words of a command, of which nothing is expanded
pub begins : (v : Word) (vs : Words) → PlainWords (and_word v vs) → Named (and_word v vs) → Expands [] none v vs
begins no_parts vs p n = absurd n
begins (and_part a v) vs p n = record { complete = tt; current = refl; parts = p.0; words = p.1; leads = n }

pub no_words_begin : Expands [] none no_parts no_words
no_words_begin = record { complete = tt; current = refl; parts = tt; words = tt; leads = tt }

-- a literal comes into the open word
leads_literal : (ds : List (List QuotedByte)) (o : Option (List QuotedByte)) (q : Bool) (s : List ℕ) (v : Word) (vs : Words) → Leads ds o (and_part (literal q s) v) vs → Leads ds (some (so_far o ++ quote_bytes q s)) v vs
leads_literal (d ∷ ds) o q s v vs h = h
leads_literal [] (some f) q s v vs h = ap (λ r. left_out (r ++ word_bytes v)) (bytes_append f (quote_bytes q s) ∙ ap (λ r. bytes_of f ++ r) (bytes_quoted q s)) ∙ ap left_out (append_assoc (bytes_of f) s (word_bytes v)) ∙ h
leads_literal [] none q s v vs h = ap (λ r. left_out (r ++ word_bytes v)) (bytes_quoted q s) ∙ h

pub with_literal : (ds : List (List QuotedByte)) (o : Option (List QuotedByte)) (q : Bool) (s : List ℕ) (v : Word) (vs : Words) → Expands ds o (and_part (literal q s) v) vs → Expands ds (some (so_far o ++ quote_bytes q s)) v vs
with_literal ds o q s v vs x = record { complete = x.complete; current = pattern_append (so_far o) (quote_bytes q s) x.current x.parts.0; parts = x.parts.1; words = x.words; leads = leads_literal ds o q s v vs x.leads }

-- the open word is closed
leads_next : (ds : List (List QuotedByte)) (o : Option (List QuotedByte)) (v : Word) (vs : Words) → Leads ds o no_parts (and_word v vs) → Leads (close_word o ds) none v vs
leads_next (d ∷ ds) none v vs h = h
leads_next (d ∷ ds) (some f) v vs h = h
leads_next [] none v vs h = absurd h
leads_next [] (some f) v vs h = ap left_out (sym (append-nil (bytes_of f))) ∙ h

pub with_next : (ds : List (List QuotedByte)) (o : Option (List QuotedByte)) (v : Word) (vs : Words) → Expands ds o no_parts (and_word v vs) → Expands (close_word o ds) none v vs
with_next ds o v vs x = record { complete = plain_close ds o x.complete x.current; current = refl; parts = x.words.0; words = x.words.1; leads = leads_next ds o v vs x.leads }

-- all are expanded
pub plain_end : (ds : List (List QuotedByte)) (o : Option (List QuotedByte)) → Expands ds o no_parts no_words → Plain (close_word o ds)
plain_end ds o x = plain_close ds o x.complete x.current

abbrev FirstRuns : List (List QuotedByte) → Type 0
FirstRuns [] = Unit {0}
FirstRuns (d ∷ ds) = left_out (bytes_of d) ≡ false

first_runs : (ds : List (List QuotedByte)) (o : Option (List QuotedByte)) → Leads ds o no_parts no_words → FirstRuns (close_word o ds)
first_runs (d ∷ ds) none h = h
first_runs (d ∷ ds) (some f) h = h
first_runs [] none h = tt
first_runs [] (some f) h = ap left_out (sym (append-nil (bytes_of f))) ∙ h

as_bytes : (fs : List File) (ds : List (List QuotedByte)) → Plain ds → FirstRuns ds → Runs (all_pathnames fs ds)
as_bytes fs [] p h = tt
as_bytes fs (d ∷ ds) p h = subst (λ b. Runs (pick b (or_literal d (matching_names d fs)) (bytes_of d ∷ []) ++ all_pathnames fs ds)) (sym p.0) h

pub runs : (fs : List File) (ds : List (List QuotedByte)) (o : Option (List QuotedByte)) → Expands ds o no_parts no_words → Runs (all_pathnames fs (close_word o ds))
runs fs ds o x = as_bytes fs (close_word o ds) (plain_end ds o x) (first_runs ds o x.leads)
