-- What has been read from a pipe, followed by what is still in it, is what has been written to it; and how the effect of one
-- step changes that.
use mathlib.Core.Path.{◌∙◌, ◌≡◌, ap, refl, subst, sym}
use mathlib.Core.Logic.{◌⊎◌, inl, inr}
use mathlib.Core.Bool.{Bool, false, true}
use mathlib.Core.List.{[], ◌++◌, ◌∷◌, List}
use mathlib.Core.Option.{none, Option, some}
use Prim.Native.Nat.{◌<◌, ℕ}
use lib.ListN.{length}
use Rattle.syntax.specs.Base.{nth, put}
use Rattle.meaning.specs.System.{file_append, file_read, Handle, held, here_text, host_input, host_paper, pipe_read, pipe_write, Process, System, writes_pipe}
use Rattle.meaning.proofs.Own.{inside}
use Rattle.confluence.proofs.Basics.{app_nil, equal_or_not, false_true, no_cons, nth_lt, put_other, put_same}
use Rattle.confluence.proofs.Chain.{e_read, e_silent, e_write, Event, Fires, inputs, outputs, Read_from, Trace}
use Rattle.confluence.proofs.Local.{Alike, Fixed, InputHandle, Local, local_step, OutputHandle}
use Rattle.confluence.proofs.Simulation.{Effect, Ended, Simulates, x_end, x_paper, x_pipe, x_read, x_silent}

-- inputs is, outputs gs, bytes in the pipe bs; c: the writer has exited
abbrev pub Buffered : List (Option ℕ) → List ℕ → List ℕ → Bool → Type 0
Buffered [] gs bs c = gs ≡ bs
Buffered (some b ∷ is) [] bs c = ⊥
Buffered (some b ∷ is) (a ∷ gs) bs c = (b ≡ a) × Buffered is gs bs c
Buffered (none ∷ is) gs bs c = (gs ≡ []) × (c ≡ true) × Buffered is gs bs c

pub buffered_read : (is : List (Option ℕ)) (gs bs : List ℕ) (c : Bool) → Buffered is gs bs c → Read_from Local local_step is gs c
buffered_read [] gs bs c h = tt
buffered_read (some b ∷ is) [] bs c h = absurd h
buffered_read (some b ∷ is) (a ∷ gs) bs c h = (h.0, buffered_read is gs bs c h.1)
buffered_read (none ∷ is) [] bs c h = (h.1, buffered_read is [] bs c h.2)
buffered_read (none ∷ is) (a ∷ gs) bs c h = no_cons h.0

buffered_got : (is : List (Option ℕ)) (gs bs : List ℕ) (b : ℕ) (c : Bool) → Buffered is gs (b ∷ bs) c → Buffered (is ++ (some b ∷ [])) gs bs c
buffered_got [] gs bs b c h = subst (λ g. Buffered (some b ∷ []) g bs c) (sym h) (refl, refl)
buffered_got (some x ∷ is) [] bs b c h = absurd h
buffered_got (some x ∷ is) (a ∷ gs) bs b c h = (h.0, buffered_got is gs bs b c h.1)
buffered_got (none ∷ is) gs bs b c h = (h.0, h.1, buffered_got is gs bs b c h.2)

buffered_end : (is : List (Option ℕ)) (gs : List ℕ) → Buffered is gs [] true → Buffered (is ++ (none ∷ [])) gs [] true
buffered_end [] gs h = (h, refl, h)
buffered_end (some x ∷ is) [] h = absurd h
buffered_end (some x ∷ is) (a ∷ gs) h = (h.0, buffered_end is gs h.1)
buffered_end (none ∷ is) gs h = (h.0, h.1, buffered_end is gs h.2)

buffered_wrote : (is : List (Option ℕ)) (gs bs : List ℕ) (b : ℕ) → Buffered is gs bs false → Buffered is (gs ++ (b ∷ [])) (bs ++ (b ∷ [])) false
buffered_wrote [] gs bs b h = ap (λ g. g ++ (b ∷ [])) h
buffered_wrote (some x ∷ is) [] bs b h = absurd h
buffered_wrote (some x ∷ is) (a ∷ gs) bs b h = (h.0, buffered_wrote is gs bs b h.1)
buffered_wrote (none ∷ is) gs bs b h = false_true h.1

pub buffered_exited : (is : List (Option ℕ)) (gs bs : List ℕ) (c : Bool) → Buffered is gs bs c → Buffered is gs bs true
buffered_exited [] gs bs c h = h
buffered_exited (some x ∷ is) [] bs c h = absurd h
buffered_exited (some x ∷ is) (a ∷ gs) bs c h = (h.0, buffered_exited is gs bs c h.1)
buffered_exited (none ∷ is) gs bs c h = (h.0, refl, buffered_exited is gs bs c h.2)

inputs_snoc : (es : List Event) (e : Event) → inputs (es ++ (e ∷ [])) ≡ inputs es ++ inputs (e ∷ [])
inputs_snoc [] e = refl
inputs_snoc (e_silent ∷ es) e = inputs_snoc es e
inputs_snoc (e_read o ∷ es) e = ap (λ z. o ∷ z) (inputs_snoc es e)
inputs_snoc (e_write b ∷ es) e = inputs_snoc es e

pub outputs_snoc : (es : List Event) (e : Event) → outputs (es ++ (e ∷ [])) ≡ outputs es ++ outputs (e ∷ [])
outputs_snoc [] e = refl
outputs_snoc (e_silent ∷ es) e = outputs_snoc es e
outputs_snoc (e_read o ∷ es) e = outputs_snoc es e
outputs_snoc (e_write b ∷ es) e = ap (λ z. b ∷ z) (outputs_snoc es e)

pub trace_snoc : (es : List Event) (e : Event) (x y z : Local) → Trace Local local_step x es y → Fires Local local_step y e z → Trace Local local_step x (es ++ (e ∷ [])) z
trace_snoc [] e x y z r h = (z, subst (λ q. Fires Local local_step q e z) (sym r) h, refl)
trace_snoc (d ∷ es) e x y z r h = (r.0, r.1, trace_snoc es e r.0 y z r.2 h)

-- pipes at a step
abbrev pub pipe_number : Handle → ℕ
pipe_number (file_read x n) = 0
pipe_number (file_append x) = 0
pipe_number (pipe_read p) = p
pipe_number (pipe_write p) = p
pipe_number host_input = 0
pipe_number host_paper = 0
pipe_number (here_text bs) = 0

abbrev pub IsPipe : Handle → Type 0
IsPipe (file_read x n) = ⊥
IsPipe (file_append x) = ⊥
IsPipe (pipe_read p) = Unit {0}
IsPipe (pipe_write p) = Unit {0}
IsPipe host_input = ⊥
IsPipe host_paper = ⊥
IsPipe (here_text bs) = ⊥

pub other_pipe : (i o : Handle) (s mid : System) (e : Event) (q : ℕ) → Effect i o s e mid → ((p : ℕ) → i ≡ pipe_read p → p ≡ q → ⊥)
    → ((p : ℕ) → o ≡ pipe_write p → p ≡ q → ⊥) → nth mid.pipes q ≡ nth s.pipes q
other_pipe i o s mid e q x_silent a b = refl
other_pipe i o s mid e q (x_read {p = p} {bs = bs} f h) a b = put_other s.pipes p q bs (a p f)
other_pipe i o s mid e q (x_end h) a b = refl
other_pipe i o s mid e q (x_paper h) a b = refl
other_pipe i o s mid e q (x_pipe {p = p} {b = c} {bs = bs} f h) a b = put_other s.pipes p q (bs ++ (c ∷ [])) (b p f)

abbrev pub Contents : System → ℕ → List (Option ℕ) → List ℕ → Bool → Type 0
Contents s q is gs c = (bs : List ℕ) × (nth s.pipes q ≡ some bs) × Buffered is gs bs c

pub same_outputs : (es : List Event) (e : Event) → outputs (e ∷ []) ≡ [] → outputs (es ++ (e ∷ [])) ≡ outputs es
same_outputs es e h = outputs_snoc es e ∙ ap (λ z. outputs es ++ z) h ∙ app_nil (outputs es)

same_inputs : (es : List Event) (e : Event) → inputs (e ∷ []) ≡ [] → inputs (es ++ (e ∷ [])) ≡ inputs es
same_inputs es e h = inputs_snoc es e ∙ ap (λ z. inputs es ++ z) h ∙ app_nil (inputs es)

pub writer_contents : (i o : Handle) (s mid : System) (e : Event) (q : ℕ) (es : List Event) (is : List (Option ℕ)) → Effect i o s e mid
    → o ≡ pipe_write q → ((p : ℕ) → i ≡ pipe_read p → p ≡ q → ⊥) → Contents s q is (outputs es) false
    → Contents mid q is (outputs (es ++ (e ∷ []))) false
writer_contents i o s mid e q es is x_silent f a t = (t.0, t.1, subst (λ g. Buffered is g t.0 false) (sym (same_outputs es e_silent refl)) t.2)
writer_contents i o s mid e q es is (x_read {p = p} {b = b} {bs = bs} g h) f a t = (
  t.0,
  put_other s.pipes p q bs (a p g) ∙ t.1,
  subst (λ g. Buffered is g t.0 false) (sym (same_outputs es (e_read (some b)) refl)) t.2,
)
writer_contents i o s mid e q es is (x_end h) f a t = (t.0, t.1, subst (λ g. Buffered is g t.0 false) (sym (same_outputs es (e_read none) refl)) t.2)
writer_contents i o s mid e q es is (x_paper h) f a t = absurd (subst IsPipe (sym f ∙ h) tt)
writer_contents i o s mid e q es is (x_pipe {p = p} {b = b} {bs = bs} g h) f a t =
    let n : p ≡ q = ap pipe_number (sym g ∙ f) in
    let k : bs ≡ t.0 = inside (sym h ∙ ap (λ z. nth s.pipes z) n ∙ t.1) in (
      bs ++ (b ∷ []),
      ap (λ z. nth (put s.pipes z (bs ++ (b ∷ []))) q) n ∙ put_same s.pipes q (bs ++ (b ∷ []))
          (nth_lt s.pipes q t.0 t.1),
      subst (λ g. Buffered is g (bs ++ (b ∷ [])) false) (sym (outputs_snoc es (e_write b)))
          (buffered_wrote is (outputs es) bs b (subst (λ z. Buffered is (outputs es) z false) (sym k) t.2)),
    )

pub reader_contents : (i o : Handle) (s mid : System) (e : Event) (q : ℕ) (es : List Event) (gs : List ℕ) (c : Bool) → Effect i o s e mid
    → i ≡ pipe_read q → ((p : ℕ) → o ≡ pipe_write p → p ≡ q → ⊥) → (held s.handles (writes_pipe q) s.processes ≡ false → c ≡ true)
    → Contents s q (inputs es) gs c → Contents mid q (inputs (es ++ (e ∷ []))) gs c
reader_contents i o s mid e q es gs c x_silent f a w t = (t.0, t.1, subst (λ g. Buffered g gs t.0 c) (sym (same_inputs es e_silent refl)) t.2)
reader_contents i o s mid e q es gs c (x_read {p = p} {b = b} {bs = bs} g h) f a w t =
    let n : p ≡ q = ap pipe_number (sym g ∙ f) in
    let k : (b ∷ bs) ≡ t.0 = inside (sym h ∙ ap (λ z. nth s.pipes z) n ∙ t.1) in (
      bs,
      ap (λ z. nth (put s.pipes z bs) q) n ∙ put_same s.pipes q bs (nth_lt s.pipes q t.0 t.1),
      subst (λ g. Buffered g gs bs c) (sym (inputs_snoc es (e_read (some b)))) (buffered_got (inputs es) gs bs b c
          (subst (λ z. Buffered (inputs es) gs z c) (sym k) t.2)),
    )
reader_contents i o s mid e q es gs c (x_end h) f a w t =
    let g : (nth s.pipes q ≡ some []) × (held s.handles (writes_pipe q) s.processes ≡ false) = subst (λ z. Ended z s) f h in
    let k : [] ≡ t.0 = inside (sym g.0 ∙ t.1) in
    let d = w g.1 in (
      [],
      g.0,
      subst (λ z. Buffered (inputs (es ++ (e_read none ∷ []))) gs [] z) (sym d)
          (subst (λ z. Buffered z gs [] true) (sym (inputs_snoc es (e_read none))) (buffered_end (inputs es) gs
          (subst (λ z. Buffered (inputs es) gs [] z) d (subst (λ z. Buffered (inputs es) gs z c) (sym k) t.2)))),
    )
reader_contents i o s mid e q es gs c (x_paper {b = b} h) f a w t = (t.0, t.1, subst (λ g. Buffered g gs t.0 c) (sym (same_inputs es (e_write b) refl)) t.2)
reader_contents i o s mid e q es gs c (x_pipe {p = p} {b = b} {bs = bs} g h) f a w t = (
  t.0,
  put_other s.pipes p q (bs ++ (b ∷ [])) (a p g)
      ∙ t.1,
  subst (λ g. Buffered g gs t.0 c) (sym (same_inputs es (e_write b) refl)) t.2,
)

-- the first member reads nothing
pub first_input : (i o : Handle) (s mid : System) (e : Event) (es : List Event) → Effect i o s e mid → i ≡ host_input
    → Buffered (inputs es) [] [] true → Buffered (inputs (es ++ (e ∷ []))) [] [] true
first_input i o s mid e es x_silent f t = subst (λ g. Buffered g [] [] true) (sym (same_inputs es e_silent refl)) t
first_input i o s mid e es (x_read g h) f t = absurd (subst IsPipe (sym g ∙ f) tt)
first_input i o s mid e es (x_end h) f t = subst (λ z. Buffered z [] [] true) (sym (inputs_snoc es (e_read none))) (buffered_end (inputs es) [] t)
first_input i o s mid e es (x_paper {b = b} h) f t = subst (λ g. Buffered g [] [] true) (sym (same_inputs es (e_write b) refl)) t
first_input i o s mid e es (x_pipe {b = b} g h) f t = subst (λ g. Buffered g [] [] true) (sym (same_inputs es (e_write b) refl)) t

pub other_paper : (i o : Handle) (s mid : System) (e : Event) (q : ℕ) → Effect i o s e mid → o ≡ pipe_write q → mid.paper ≡ s.paper
other_paper i o s mid e q x_silent f = refl
other_paper i o s mid e q (x_read g h) f = refl
other_paper i o s mid e q (x_end h) f = refl
other_paper i o s mid e q (x_paper h) f = absurd (subst IsPipe (sym f ∙ h) tt)
other_paper i o s mid e q (x_pipe g h) f = refl

pub record SameRest (s mid : System) : Type 0 where
  pub handles : mid.handles ≡ s.handles
  pub files : mid.files ≡ s.files
  pub processes : mid.processes ≡ s.processes
  pub exited : mid.exited ≡ s.exited
  pub input : mid.input ≡ s.input
  pub next1 : mid.next_pid ≡ s.next_pid

pub effect_rest : (i o : Handle) (s mid : System) (e : Event) → Effect i o s e mid → SameRest s mid
effect_rest i o s mid e x_silent = record { handles = refl; files = refl; processes = refl; exited = refl; input = refl; next1 = refl }
effect_rest i o s mid e (x_read g h) = record { handles = refl; files = refl; processes = refl; exited = refl; input = refl; next1 = refl }
effect_rest i o s mid e (x_end h) = record { handles = refl; files = refl; processes = refl; exited = refl; input = refl; next1 = refl }
effect_rest i o s mid e (x_paper h) = record { handles = refl; files = refl; processes = refl; exited = refl; input = refl; next1 = refl }
effect_rest i o s mid e (x_pipe g h) = record { handles = refl; files = refl; processes = refl; exited = refl; input = refl; next1 = refl }

pub fixed_input : (o : Handle) → InputHandle o → Fixed (some o)
fixed_input (file_read x n) h = absurd h
fixed_input (file_append x) h = tt
fixed_input (pipe_read p) h = tt
fixed_input (pipe_write p) h = tt
fixed_input host_input h = tt
fixed_input host_paper h = tt
fixed_input (here_text bs) h = absurd h

pub fixed_output : (o : Handle) → OutputHandle o → Fixed (some o)
fixed_output (file_read x n) h = absurd h
fixed_output (file_append x) h = tt
fixed_output (pipe_read p) h = tt
fixed_output (pipe_write p) h = tt
fixed_output host_input h = tt
fixed_output host_paper h = tt
fixed_output (here_text bs) h = absurd h

pub same_handles : (i o : Handle) (table : List ℕ) (s t : System) (w : Process) (y : Local) → t.handles ≡ s.handles → t.files ≡ s.files
    → Simulates i o table s w y → Simulates i o table t w y
same_handles i o table s t w y e f l = record {
  like = l.like;
  agrees = record {
    lengths = l.agrees.lengths;
    within = λ a n r. subst (λ os. n < length os) (sym e) (l.agrees.within a n r);
    once = l.agrees.once;
    alike = λ a n r. subst (λ os. Alike i o (nth os n) (nth y.system.handles a)) (sym e) (l.agrees.alike a n r);
    files = f ∙ l.agrees.files;
  };
}

pub effect_pipe : (i o : Handle) (s mid : System) (e : Event) (p : ℕ) → Effect i o s e mid → (cs : List ℕ) × (nth s.pipes p ≡ some cs)
    → (cs : List ℕ) × (nth mid.pipes p ≡ some cs)
effect_pipe i o s mid e p x_silent h = h
effect_pipe i o s mid e p (x_read {p = r} {bs = bs} f g) h = by (equal_or_not r p)
  where
    by : (r ≡ p) ⊎ (r ≡ p → ⊥) → (cs : List ℕ) × (nth (put s.pipes r bs) p ≡ some cs)
    by (inl e) = (bs, ap (λ z. nth (put s.pipes z bs) p) e ∙ put_same s.pipes p bs (nth_lt s.pipes p h.0 h.1))
    by (inr e) = (h.0, put_other s.pipes r p bs e ∙ h.1)
effect_pipe i o s mid e p (x_end f) h = h
effect_pipe i o s mid e p (x_paper f) h = h
effect_pipe i o s mid e p (x_pipe {p = r} {b = b} {bs = bs} f g) h = by (equal_or_not r p)
  where
    by : (r ≡ p) ⊎ (r ≡ p → ⊥) → (cs : List ℕ) × (nth (put s.pipes r (bs ++ (b ∷ []))) p ≡ some cs)
    by (inl e) = (bs ++ (b ∷ []), ap (λ z. nth (put s.pipes z (bs ++ (b ∷ []))) p) e ∙ put_same s.pipes p (bs ++ (b ∷ [])) (nth_lt s.pipes p h.0 h.1))
    by (inr e) = (h.0, put_other s.pipes r p (bs ++ (b ∷ [])) e ∙ h.1)
