-- Lists, chains of && and ||, and commands.
use Rattle.std.proofs.Common.{◌≡◌, ℕ, zero, suc, ◌+◌, ◌<◌, ◌≤◌, Bool, true, false, ◌&&◌, List, [], ◌∷◌, length, get_or, sym, refl, ap, ◌∙◌, subst, eqb, arith, ◌⊎◌, ⊎_elim, inl, inr}
use Rattle.std.specs.List.{list_all}
use Rattle.std.proofs.Math.Bool.{and_comm, and-true}
use Rattle.std.proofs.lemmas.Bool.{both_ways, ne_eqb}
use Rattle.syntax.specs.Tree.{no_assignments, assign, no_redirects, redirect, simple, group, if, while, no_else, else, Pipeline, single, piped, AndOr, first, joined, CommandList, end, next}
use Rattle.syntax.specs.Depth.{list_depth, and_or_depth, pipeline_depth}
use Rattle.code.specs.Layout.{flag}
use Rattle.code.specs.Chains.{cells, chain_of, ends_at}
use Rattle.code.specs.Cells.{CommandIs, item_at, said}
use Rattle.code.specs.declared.cells.Item.{Item}
use Rattle.code.specs.declared.cells.Command.{Command}
use Rattle.code.specs.declared.cells.Command.TheVariants.{Simple, Group, If, While}
use Rattle.code.specs.Code.{WordsCode, ElseCode, PipelineCode, AndOrCode, ListCode}
use Rattle.code.proofs.Chains.{Chain, chain_bound, chain_ends, cells_end, cells_more}
use Rattle.slice.specs.Slice.{covers_else, covers_pipeline, covers_and_or, covers_list}
use Rattle.slice.specs.Says.{WordsSays, ListSays, ElseSays, CommandSays, PipelineSays, AndOrSays}

-- what is not 0 is not found to be
pub no_value : (n : ℕ) (b : Bool) → (n ≡ 0 → ⊥) → b ≡ eqb n 0 → b ≡ true → ⊥
no_value n b d e t = both_ways b (e ∙ ne_eqb n 0 d) t

-- how many cells they have
abbrev pipeline_count : AndOr → ℕ
pipeline_count (first n p) = suc zero
pipeline_count (joined x b n p) = suc (pipeline_count x)

abbrev command_count : CommandList → ℕ
command_count end = 0
command_count (next x b l) = suc (command_count l)

-- the pipelines of a chain of && and ||, from the last to the first
abbrev pipelines : AndOr → List Pipeline
pipelines (first n p) = p ∷ []
pipelines (joined x b n p) = p ∷ pipelines x

pipelines_all : (x : AndOr) → covers_and_or x ≡ list_all covers_pipeline (pipelines x)
pipelines_all (first n p) = sym (and-true (covers_pipeline p))
pipelines_all (joined x b n p) = and_comm (covers_and_or x) (covers_pipeline p) ∙ ap (λ v. covers_pipeline p && v) (pipelines_all x)

module _ (text words : List ℕ) where
  -- these are the cells of a list, and of pipelines fewer than `left` deep
  abbrev pub ListIn : List ℕ → CommandList → Type 0
  ListIn xs end = xs ≡ []
  ListIn xs (next x b l) = (a : ℕ) × (ys : List ℕ) × (xs ≡ a ∷ ys) × (get_or words (a + 1) 0 ≡ flag b) × AndOrCode text words (get_or words (a + 2) 0) x × ListIn ys l

  abbrev pub PipelinesIn : ℕ → List ℕ → List Pipeline → Type 0
  PipelinesIn left xs [] = xs ≡ []
  PipelinesIn left xs (p ∷ ps) = (a : ℕ) × (ys : List ℕ) × (xs ≡ a ∷ ys) × PipelineCode text words (get_or words (a + 3) 0) p × (pipeline_depth p < left) × PipelinesIn left ys ps

  pipeline_positive : (a : ℕ) (p : Pipeline) → PipelineCode text words a p → 0 < a
  pipeline_positive a (single c) h = h.0
  pipeline_positive a (piped c p) h = h.0

  and_or_positive : (a : ℕ) (x : AndOr) → AndOrCode text words a x → 0 < a
  and_or_positive a (first n p) h = h.0
  and_or_positive a (joined x b n p) h = h.0

  commands_chain : (a : ℕ) (l : CommandList) → ListCode text words a l → Chain words (command_count l) a
  commands_chain a end h = h
  commands_chain a (next x b l) h = (h.0, commands_chain (get_or words a 0) l h.3)

  pipelines_chain : (a : ℕ) (x : AndOr) → AndOrCode text words a x → Chain words (pipeline_count x) a
  pipelines_chain a (first n p) h = (h.0, h.1)
  pipelines_chain a (joined x b n p) h = (h.0, pipelines_chain (get_or words a 0) x h.1)

  list_in : (n a : ℕ) (l : CommandList) → command_count l ≤ n → ListCode text words a l → ListIn (cells words n a) l
  list_in n a end k h = cells_end words n a h
  list_in zero a (next x b l) k h = absurd (omega arith)
  list_in (suc n) a (next x b l) k h = (a, cells words n (get_or words a 0), cells_more words n a h.0, h.1, h.2, list_in n (get_or words a 0) l (omega arith) h.3)

  pipelines_in : (n a left : ℕ) (x : AndOr) → pipeline_count x ≤ n → AndOrCode text words a x → and_or_depth x < left → PipelinesIn left (cells words n a) (pipelines x)
  pipelines_in zero a left (first m p) k h d = absurd (omega arith)
  pipelines_in (suc n) a left (first m p) k h d = (a, cells words n (get_or words a 0), cells_more words n a h.0, h.3, d, cells_end words n (get_or words a 0) h.1)
  pipelines_in zero a left (joined x b m p) k h d = absurd (omega arith)
  pipelines_in (suc n) a left (joined x b m p) k h d = (a, cells words n (get_or words a 0), cells_more words n a h.0, h.4, omega arith, pipelines_in n (get_or words a 0) left x (omega arith) h.1 (omega arith))

  -- both come to their end
  list_ends : (a : ℕ) (l : CommandList) → ListCode text words a l → ends_at words a ≡ true
  list_ends a l h = chain_ends words (command_count l) a (commands_chain a l h)

  and_or_ends : (a : ℕ) (x : AndOr) → AndOrCode text words a x → ends_at words (get_or words a 0) ≡ true
  and_or_ends a (first n p) h = chain_ends words zero (get_or words a 0) h.1
  and_or_ends a (joined x b n p) h = chain_ends words (pipeline_count x) (get_or words a 0) (pipelines_chain (get_or words a 0) x h.1)

  -- what is left of a list, or of a chain of && and ||, decides the answer
  pub record ListWalk (xs : List ℕ) (left : ℕ) (l : CommandList) : Type 0 where
    pub rest : CommandList
    pub coded : ListIn xs rest
    pub shallow : list_depth rest < left
    pub still : covers_list l ≡ covers_list rest

  pub record AndOrWalk (xs : List ℕ) (left : ℕ) (x : AndOr) : Type 0 where
    pub rest : List Pipeline
    pub coded : PipelinesIn left xs rest
    pub still : covers_and_or x ≡ list_all covers_pipeline rest

  pub list_start : (root left : ℕ) (xs : List ℕ) (l : CommandList) → xs ≡ chain_of words root → ListCode text words root l → list_depth l < left → ListWalk xs left l
  list_start root left xs l e h d = subst (λ ys. ListWalk ys left l) (sym e) (record { rest = l; coded = list_in (length words + 1) root l (chain_bound words (command_count l) root (commands_chain root l h)) h; shallow = d; still = refl })

  -- the last of a chain of && and ||, and those before it
  pub and_or_start : (last before left : ℕ) (xs : List ℕ) (x : AndOr) → before ≡ get_or words last 0 → xs ≡ chain_of words before → AndOrCode text words last x → and_or_depth x < left → AndOrWalk (last ∷ xs) left x
  and_or_start last before left xs x b e h d =
      let n : pipeline_count x ≤ suc (length words + 1) = let k = chain_bound words (pipeline_count x) last (pipelines_chain last x h) in omega arith in
      let c : cells words (suc (length words + 1)) last ≡ last ∷ xs = cells_more words (length words + 1) last (and_or_positive last x h) ∙ ap (λ ys. last ∷ ys) (sym (e ∙ ap (chain_of words) b)) in
      subst (λ ys. AndOrWalk ys left x) c (record { rest = pipelines x; coded = pipelines_in (suc (length words + 1)) last left x n h d; still = pipelines_all x })

  -- a list more, of a command that is given by its cell
  list_there : (p q left : ℕ) (r : Bool) (l : CommandList) → p ≡ q → ListSays text words p left r → ListCode text words q l → list_depth l < left → covers_list l ≡ r
  list_there p q left r l e s h d = sym (s l (subst (λ y. ListCode text words y l) (sym e) h) d)

  -- commands by their cells
  module _ (at left inner : ℕ) (deeper : left ≡ inner + 1) where
    pub simple_no : (s w r : ℕ) (o : Bool) → CommandIs text words at (Simple s w r) → (s ≡ 0 → r ≡ 0 → ⊥) → o ≡ false → CommandSays text words at left o
    simple_no s w r o i d f (simple no_assignments ws no_redirects) h k = absurd (d (i.1 ∙ h.1) (i.3 ∙ h.3))
    simple_no s w r o i d f (simple no_assignments ws (redirect j v ts)) h k = f
    simple_no s w r o i d f (simple (assign x v ss) ws no_redirects) h k = f
    simple_no s w r o i d f (simple (assign x v ss) ws (redirect j u ts)) h k = f
    simple_no s w r o i d f c h k = absurd (omega (arith, h.0, i.0))

    pub simple_yes : (s w r : ℕ) (o : Bool) → CommandIs text words at (Simple s w r) → s ≡ 0 → r ≡ 0 → WordsSays text words w o → CommandSays text words at left o
    simple_yes s w r o i y z u (simple no_assignments ws no_redirects) h k = u ws (subst (λ v. WordsCode text words v ws) (sym i.2) h.2)
    simple_yes s w r o i y z u (simple no_assignments ws (redirect j v ts)) h k = absurd (omega (arith, h.3.0, i.3))
    simple_yes s w r o i y z u (simple (assign x v ss) ws ts) h k = absurd (omega (arith, h.1.0, i.1))
    simple_yes s w r o i y z u c h k = absurd (omega (arith, h.0, i.0))

    pub group_no : (l r : ℕ) (o : Bool) → CommandIs text words at (Group l r) → (r ≡ 0 → ⊥) → o ≡ false → CommandSays text words at left o
    group_no l r o i d f (group x no_redirects) h k = absurd (d (i.2 ∙ h.2))
    group_no l r o i d f (group x (redirect j v ts)) h k = f
    group_no l r o i d f c h k = absurd (omega (arith, h.0, i.0))

    pub group_yes : (l r : ℕ) (o : Bool) → CommandIs text words at (Group l r) → r ≡ 0 → ListSays text words l inner o → CommandSays text words at left o
    group_yes l r o i z s (group x no_redirects) h k = sym (list_there l (get_or words (at + 2) 0) inner o x i.1 s h.1 (omega arith))
    group_yes l r o i z s (group x (redirect j v ts)) h k = absurd (omega (arith, h.2.0, i.2))
    group_yes l r o i z s c h k = absurd (omega (arith, h.0, i.0))

    module _ (b c e r : ℕ) (i : CommandIs text words at (If b c e r)) where
      pub if_no : (o : Bool) → (r ≡ 0 → ⊥) → o ≡ false → CommandSays text words at left o
      if_no o d f (if x y m no_redirects) h k = absurd (d (i.4 ∙ h.4))
      if_no o d f (if x y m (redirect j v ts)) h k = f
      if_no o d f a h k = absurd (omega (arith, h.0, i.0))

      pub if_condition : (u o : Bool) → ListSays text words b inner u → u ≡ false → o ≡ false → CommandSays text words at left o
      if_condition u o s n f (if x y m no_redirects) h k = f ∙ ap (λ v. v && (covers_list y && covers_else m)) (sym (list_there b (get_or words (at + 2) 0) inner u x i.1 s h.1 (omega arith) ∙ n))
      if_condition u o s n f (if x y m (redirect j v ts)) h k = f
      if_condition u o s n f a h k = absurd (omega (arith, h.0, i.0))

      pub if_then : (u v o : Bool) → ListSays text words b inner u → u ≡ true → ListSays text words c inner v → v ≡ false → o ≡ false → CommandSays text words at left o
      if_then u v o s n t l f (if x y m no_redirects) h k =
          f
          ∙ ap (λ w. w && covers_else m) (sym (list_there c (get_or words (at + 3) 0) inner v y i.2 t h.2 (omega arith) ∙ l))
          ∙ ap (λ w. w && (covers_list y && covers_else m)) (sym (list_there b (get_or words (at + 2) 0) inner u x i.1 s h.1 (omega arith) ∙ n))
      if_then u v o s n t l f (if x y m (redirect j p ts)) h k = f
      if_then u v o s n t l f a h k = absurd (omega (arith, h.0, i.0))

      pub if_yes : (u v o : Bool) → r ≡ 0 → ListSays text words b inner u → u ≡ true → ListSays text words c inner v → v ≡ true → ElseSays text words e inner o → CommandSays text words at left o
      if_yes u v o z s n t l q (if x y m no_redirects) h k =
          q m (subst (λ p. ElseCode text words p m) (sym i.3) h.3) (omega arith)
          ∙ ap (λ w. w && covers_else m) (sym (list_there c (get_or words (at + 3) 0) inner v y i.2 t h.2 (omega arith) ∙ l))
          ∙ ap (λ w. w && (covers_list y && covers_else m)) (sym (list_there b (get_or words (at + 2) 0) inner u x i.1 s h.1 (omega arith) ∙ n))
      if_yes u v o z s n t l q (if x y m (redirect j p ts)) h k = absurd (omega (arith, h.4.0, i.4))
      if_yes u v o z s n t l q a h k = absurd (omega (arith, h.0, i.0))

    module _ (b c r : ℕ) (i : CommandIs text words at (While b c r)) where
      pub while_no : (o : Bool) → (r ≡ 0 → ⊥) → o ≡ false → CommandSays text words at left o
      while_no o d f (while x y no_redirects) h k = absurd (d (i.3 ∙ h.3))
      while_no o d f (while x y (redirect j v ts)) h k = f
      while_no o d f a h k = absurd (omega (arith, h.0, i.0))

      pub while_condition : (u o : Bool) → ListSays text words b inner u → u ≡ false → o ≡ false → CommandSays text words at left o
      while_condition u o s n f (while x y no_redirects) h k = f ∙ ap (λ v. v && covers_list y) (sym (list_there b (get_or words (at + 2) 0) inner u x i.1 s h.1 (omega arith) ∙ n))
      while_condition u o s n f (while x y (redirect j v ts)) h k = f
      while_condition u o s n f a h k = absurd (omega (arith, h.0, i.0))

      pub while_yes : (u o : Bool) → r ≡ 0 → ListSays text words b inner u → u ≡ true → ListSays text words c inner o → CommandSays text words at left o
      while_yes u o z s n t (while x y no_redirects) h k =
          sym (list_there c (get_or words (at + 3) 0) inner o y i.2 t h.2 (omega arith))
          ∙ ap (λ v. v && covers_list y) (sym (list_there b (get_or words (at + 2) 0) inner u x i.1 s h.1 (omega arith) ∙ n))
      while_yes u o z s n t (while x y (redirect j v ts)) h k = absurd (omega (arith, h.3.0, i.3))
      while_yes u o z s n t a h k = absurd (omega (arith, h.0, i.0))

  -- a command that is none of these
  pub other : (at left : ℕ) → (get_or words (at + 1) 0 ≡ 0 → ⊥) → (get_or words (at + 1) 0 ≡ 1 → ⊥) → (get_or words (at + 1) 0 ≡ 3 → ⊥) → (get_or words (at + 1) 0 ≡ 4 → ⊥) → CommandSays text words at left false
  other at left p q r s (simple ss ws ts) h k = absurd (p h.0)
  other at left p q r s (group l ts) h k = absurd (q h.0)
  other at left p q r s (if x y m ts) h k = absurd (r h.0)
  other at left p q r s (while x y ts) h k = absurd (s h.0)
  other at left p q r s o h k = refl

  pub other_cell : (at left : ℕ) (cell : Command) → CommandIs text words at cell → ((s w r : ℕ) → cell ≡ Simple s w r → ⊥) → ((l r : ℕ) → cell ≡ Group l r → ⊥) → ((b c e r : ℕ) → cell ≡ If b c e r → ⊥) → ((b c r : ℕ) → cell ≡ While b c r → ⊥) → CommandSays text words at left false
  other_cell at left (Simple s w r) i x y z u = absurd (x s w r refl)
  other_cell at left (Group l r) i x y z u = absurd (y l r refl)
  other_cell at left (If b c e r) i x y z u = absurd (z b c e r refl)
  other_cell at left (While b c r) i x y z u = absurd (u b c r refl)
  other_cell at left cell i x y z u = other at left (λ e. omega (arith, i.0)) (λ e. omega (arith, i.0)) (λ e. omega (arith, i.0)) (λ e. omega (arith, i.0))

  -- one command more of a list
  list_turn : (a left : ℕ) (xs ys : List ℕ) (l rest : CommandList) → xs ≡ a ∷ ys → said (get_or words (a + 1) 0) ≡ false → AndOrSays text words (get_or words (a + 2) 0) left true → ListIn xs rest → list_depth rest < left → covers_list l ≡ covers_list rest → ListWalk ys left l
  list_turn a left xs ys l end e f s i d t = absurd (cc)
  list_turn a left xs ys l (next x true m) e f s i d t =
      let p : i.0 ≡ a = cc in
      let q : get_or words (a + 1) 0 ≡ 1 = subst (λ v. get_or words (v + 1) 0 ≡ 1) p i.3 in
      absurd (both_ways (said (get_or words (a + 1) 0)) f (ap said q))
  list_turn a left xs ys l (next x false m) e f s i d t =
      let p : i.0 ≡ a = cc in
      let q : i.1 ≡ ys = cc in
      let o : true ≡ covers_and_or x = s x (subst (λ v. AndOrCode text words (get_or words (v + 2) 0) x) p i.4) (omega arith) in
      record { rest = m; coded = subst (λ v. ListIn v m) q i.5; shallow = omega arith; still = t ∙ ap (λ v. v && covers_list m) (sym o) }

  pub list_more : (a left : ℕ) (item : Item) (r : Bool) (xs ys : List ℕ) (l : CommandList) → item ≡ item_at words a → xs ≡ a ∷ ys → item.background ≡ false → AndOrSays text words item.and_or left r → r ≡ true → ListWalk xs left l → ListWalk ys left l
  list_more a left item r xs ys l i e f s g w = list_turn a left xs ys l w.rest e (sym (ap (λ v. v.background) i) ∙ f) (λ x h d. sym g ∙ s x (subst (λ v. AndOrCode text words v.and_or x) (sym i) h) d) w.coded w.shallow w.still

  list_stop : (a left : ℕ) (xs ys : List ℕ) (l rest : CommandList) → xs ≡ a ∷ ys → (said (get_or words (a + 1) 0) ≡ true) ⊎ AndOrSays text words (get_or words (a + 2) 0) left false → ListIn xs rest → list_depth rest < left → covers_list l ≡ covers_list rest → false ≡ covers_list l
  list_stop a left xs ys l end e f i d t = absurd (cc)
  list_stop a left xs ys l (next x true m) e f i d t = sym t
  list_stop a left xs ys l (next x false m) e f i d t =
      let p : i.0 ≡ a = cc in
      let q : get_or words (a + 1) 0 ≡ 0 = subst (λ v. get_or words (v + 1) 0 ≡ 0) p i.3 in
      ⊎_elim
      (λ b. absurd (both_ways (said (get_or words (a + 1) 0)) (ap said q) b))
      (λ s. let o : false ≡ covers_and_or x = s x (subst (λ v. AndOrCode text words (get_or words (v + 2) 0) x) p i.4) (omega arith) in sym (t ∙ ap (λ v. v && covers_list m) (sym o)))
      f

  -- it is in the background
  pub list_background : (a left : ℕ) (item : Item) (xs ys : List ℕ) (l : CommandList) → item ≡ item_at words a → xs ≡ a ∷ ys → item.background ≡ true → ListWalk xs left l → false ≡ covers_list l
  list_background a left item xs ys l i e f w = list_stop a left xs ys l w.rest e (inl (sym (ap (λ v. v.background) i) ∙ f)) w.coded w.shallow w.still

  -- it is not run
  pub list_no : (a left : ℕ) (item : Item) (r : Bool) (xs ys : List ℕ) (l : CommandList) → item ≡ item_at words a → xs ≡ a ∷ ys → AndOrSays text words item.and_or left r → r ≡ false → ListWalk xs left l → false ≡ covers_list l
  list_no a left item r xs ys l i e s g w = list_stop a left xs ys l w.rest e (inr (λ x h d. sym g ∙ s x (subst (λ v. AndOrCode text words v.and_or x) (sym i) h) d)) w.coded w.shallow w.still

  list_last : (xs : List ℕ) (l rest : CommandList) → xs ≡ [] → ListIn xs rest → covers_list l ≡ covers_list rest → true ≡ covers_list l
  list_last xs l end e i t = sym t
  list_last xs l (next x b m) e i t = absurd (cc)

  pub list_end : (root left : ℕ) (r : Bool) (xs : List ℕ) (l : CommandList) → r ≡ ends_at words root → xs ≡ [] → ListCode text words root l → ListWalk xs left l → r ≡ covers_list l
  list_end root left r xs l o e h w = o ∙ list_ends root l h ∙ list_last xs l w.rest e w.coded w.still

  -- one pipeline more of a chain of && and ||
  and_or_turn : (a left : ℕ) (xs ys : List ℕ) (x : AndOr) (rest : List Pipeline) → xs ≡ a ∷ ys → PipelineSays text words (get_or words (a + 3) 0) left true → PipelinesIn left xs rest → covers_and_or x ≡ list_all covers_pipeline rest → AndOrWalk ys left x
  and_or_turn a left xs ys x [] e s i t = absurd (cc)
  and_or_turn a left xs ys x (p ∷ ps) e s i t =
      let q : i.0 ≡ a = cc in
      let r : i.1 ≡ ys = cc in
      let o : true ≡ covers_pipeline p = s p (subst (λ v. PipelineCode text words (get_or words (v + 3) 0) p) q i.3) i.4 in
      record { rest = ps; coded = subst (λ v. PipelinesIn left v ps) r i.5; still = t ∙ ap (λ v. v && list_all covers_pipeline ps) (sym o) }

  pub and_or_more : (a left p : ℕ) (r : Bool) (xs ys : List ℕ) (x : AndOr) → p ≡ get_or words (a + 3) 0 → xs ≡ a ∷ ys → PipelineSays text words p left r → r ≡ true → AndOrWalk xs left x → AndOrWalk ys left x
  and_or_more a left p r xs ys x i e s g w = and_or_turn a left xs ys x w.rest e (λ q h d. sym g ∙ s q (subst (λ v. PipelineCode text words v q) (sym i) h) d) w.coded w.still

  and_or_stop : (a left : ℕ) (xs ys : List ℕ) (x : AndOr) (rest : List Pipeline) → xs ≡ a ∷ ys → PipelineSays text words (get_or words (a + 3) 0) left false → PipelinesIn left xs rest → covers_and_or x ≡ list_all covers_pipeline rest → false ≡ covers_and_or x
  and_or_stop a left xs ys x [] e s i t = absurd (cc)
  and_or_stop a left xs ys x (p ∷ ps) e s i t =
      let q : i.0 ≡ a = cc in
      let o : false ≡ covers_pipeline p = s p (subst (λ v. PipelineCode text words (get_or words (v + 3) 0) p) q i.3) i.4 in
      sym (t ∙ ap (λ v. v && list_all covers_pipeline ps) (sym o))

  pub and_or_no : (a left p : ℕ) (r : Bool) (xs ys : List ℕ) (x : AndOr) → p ≡ get_or words (a + 3) 0 → xs ≡ a ∷ ys → PipelineSays text words p left r → r ≡ false → AndOrWalk xs left x → false ≡ covers_and_or x
  and_or_no a left p r xs ys x i e s g w = and_or_stop a left xs ys x w.rest e (λ q h d. sym g ∙ s q (subst (λ v. PipelineCode text words v q) (sym i) h) d) w.coded w.still

  and_or_last : (left : ℕ) (xs : List ℕ) (x : AndOr) (rest : List Pipeline) → xs ≡ [] → PipelinesIn left xs rest → covers_and_or x ≡ list_all covers_pipeline rest → true ≡ covers_and_or x
  and_or_last left xs x [] e i t = sym t
  and_or_last left xs x (p ∷ ps) e i t = absurd (cc)

  pub and_or_end : (last left : ℕ) (r : Bool) (xs : List ℕ) (x : AndOr) → r ≡ ends_at words (get_or words last 0) → xs ≡ [] → AndOrCode text words last x → AndOrWalk xs left x → r ≡ covers_and_or x
  and_or_end last left r xs x o e h w = o ∙ and_or_ends last x h ∙ and_or_last left xs x w.rest e w.coded w.still

  pub pipeline_no : (at left x : ℕ) → x ≡ get_or words at 0 → (x ≡ 0 → ⊥) → PipelineSays text words at left false
  pipeline_no at left x e d (single c) h o = absurd (d (e ∙ h.2))
  pipeline_no at left x e d (piped c p) h o = refl

  pub pipeline_yes : (at left x : ℕ) (r : Bool) → x ≡ get_or words at 0 → x ≡ 0 → CommandSays text words at left r → PipelineSays text words at left r
  pipeline_yes at left x r e z s (single c) h o = s c h.1 o
  pipeline_yes at left x r e z s (piped c p) h o = absurd (omega (arith, pipeline_positive (get_or words at 0) p h.2))

  pub else_none : (at left : ℕ) → at ≡ 0 → ElseSays text words at left true
  else_none at left z no_else h d = refl
  else_none at left z (else l) h d = absurd (omega (arith, h.0))

  pub else_some : (at left p : ℕ) (r : Bool) → (at ≡ 0 → ⊥) → p ≡ get_or words at 0 → ListSays text words p left r → ElseSays text words at left r
  else_some at left p r z e s no_else h d = absurd (z h)
  else_some at left p r z e s (else l) h d = sym (list_there p (get_or words at 0) left r l e s h.1 d)
