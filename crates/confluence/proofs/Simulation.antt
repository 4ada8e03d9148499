-- A step of a process in the whole system is an action of the local process that it simulates, with the same effect on the
-- outside: a pipe, the host's input or the paper.
use mathlib.Core.Path.{◌∙◌, ◌≡◌, ap, refl, subst, sym}
use mathlib.Core.Logic.{◌⊎◌, inl, inr}
use mathlib.Core.Bool.{Bool, false, true}
use mathlib.Core.List.{[], ◌++◌, ◌∷◌, List}
use mathlib.Core.Option.{none, Option, some}
use Prim.Native.Nat.{◌<◌, suc, zero, ℕ}
use native.Mathlib.Omega.{arith}
use lib.ListN.{length}
use lib.Dec.{eqb, ltb}
use Rattle.syntax.specs.Base.{Name, nth, on_some, opt, pick, put}
use Rattle.meaning.specs.System.{at_and_or, at_builtin, at_capture, at_command, at_end, at_list, at_pipeline, at_redirects, at_status, at_unwind, at_wait, at_words, Builtin, Control, File, file_append, file_read, find_file, Frame, got, Handle, held, here_text, host_input, host_paper, must_wait, no_reader, pipe_full, pipe_read, pipe_write, Process, read_byte, read_handle, read_input, read_pipe, read_text, ReadByte, reads_pipe, set_file, System, with_files, with_handles, with_input, with_paper, with_pipes, write_byte, write_handle, write_pipe, WriteByte, writes_pipe, wrote}
use Rattle.meaning.specs.Step.{continues, exits, grep_last, open_handle, print_byte, read_or, step, step_builtin, step_control, StepResult}
use Rattle.meaning.proofs.Own.{inside}
use Rattle.meaning.proofs.Core.{no_some}
use Rattle.confluence.proofs.Basics.{equal_or_not, length_snoc, nth_lt, nth_new, nth_old, nth_snoc, put_length, put_other, put_same}
use Rattle.confluence.proofs.Chain.{e_read, e_silent, e_write, Event, finished, Fires, writing}
use Rattle.confluence.proofs.Renaming.{IoBuiltin, IoControl, l_and_or, l_arguments, l_body, l_builtin, l_capture, l_cat, l_cat_on, l_command, l_condition, l_done, l_for, l_grep, l_handles, l_head, l_if, l_joined, l_list, l_nil, l_not, l_pipeline, l_print, l_read, l_redirects, l_rest, l_seq, l_status, l_unwind, l_wait, l_wc, l_words, l_yes, LikeBuiltin, LikeControl, LikeFrames, LikeProcess, LikeRead, LikeStep, LikeWrite, Private, Sequential, step_like, twin}
use Rattle.confluence.proofs.Local.{after_step, Agrees, Alike, as_input, builtin_request, builtin_source, control_source, Fixed, InputHandle, is_host_input, is_host_paper, Local, local_step, OutputHandle, own_action, Preserves, preserves_self, r_none, r_read, r_write, Request, request, respond, Table}

-- alike by a weaker relation
module _ (ρ σ : Bool → ℕ → ℕ → Type 0) (z y : Bool) (g : (i j : ℕ) → ρ z i j → σ y i j) where
  map_builtin : (u v : Builtin) → LikeBuiltin ρ z u v → LikeBuiltin σ y u v
  map_builtin u v l_done = l_done
  map_builtin u v (l_print h) = l_print (map_builtin _ _ h)
  map_builtin u v l_cat = l_cat
  map_builtin u v (l_cat_on h) = l_cat_on (g _ _ h)
  map_builtin u v l_head = l_head
  map_builtin u v l_wc = l_wc
  map_builtin u v l_grep = l_grep
  map_builtin u v l_seq = l_seq
  map_builtin u v l_yes = l_yes
  map_builtin u v l_read = l_read

  map_control : (c d : Control) → LikeControl ρ z c d → LikeControl σ y c d
  map_control c d l_list = l_list
  map_control c d l_and_or = l_and_or
  map_control c d l_pipeline = l_pipeline
  map_control c d l_command = l_command
  map_control c d l_words = l_words
  map_control c d l_redirects = l_redirects
  map_control c d (l_builtin h) = l_builtin (map_builtin _ _ h)
  map_control c d l_status = l_status
  map_control c d l_unwind = l_unwind
  map_control c d l_wait = l_wait
  map_control c d (l_capture h) = l_capture (g _ _ h)

  map_frames : (k j : List Frame) → LikeFrames ρ z k j → LikeFrames σ y k j
  map_frames k j l_nil = l_nil
  map_frames k j (l_rest h) = l_rest (map_frames _ _ h)
  map_frames k j (l_joined h) = l_joined (map_frames _ _ h)
  map_frames k j (l_not h) = l_not (map_frames _ _ h)
  map_frames k j (l_if h) = l_if (map_frames _ _ h)
  map_frames k j (l_condition h) = l_condition (map_frames _ _ h)
  map_frames k j (l_body h) = l_body (map_frames _ _ h)
  map_frames k j (l_for h) = l_for (map_frames _ _ h)
  map_frames k j (l_handles a b h) = l_handles (g _ _ a) (g _ _ b) (map_frames _ _ h)
  map_frames k j (l_arguments h) = l_arguments (map_frames _ _ h)

  pub map_process : (w v : Process) → LikeProcess ρ z w v → LikeProcess σ y w v
  map_process w v h = record {
    control = map_control _ _ h.control;
    frames = map_frames _ _ h.frames;
    stdin = g _ _ h.stdin;
    stdout = g _ _ h.stdout;
    variables = h.variables;
    functions = h.functions;
    arguments = h.arguments;
    status = h.status;
    jobs = h.jobs;
  }

abbrev IsNone : Request → Type 0
IsNone r_none = Unit {0}
IsNone r_read = ⊥
IsNone (r_write b) = ⊥

abbrev IsRead : Request → Type 0
IsRead r_none = ⊥
IsRead r_read = Unit {0}
IsRead (r_write b) = ⊥

abbrev IsWrite : ℕ → Request → Type 0
IsWrite b r_none = ⊥
IsWrite b r_read = ⊥
IsWrite b (r_write c) = c ≡ b

none_read : (b : Bool) → pick b r_read r_none ≡ r_none → b ≡ false
none_read true e = absurd (subst IsNone (sym e) tt)
none_read false e = refl

none_write : (b : Bool) (c : ℕ) → pick b (r_write c) r_none ≡ r_none → b ≡ false
none_write true c e = absurd (subst IsNone (sym e) tt)
none_write false c e = refl

read_read : (b : Bool) → pick b r_read r_none ≡ r_read → b ≡ true
read_read true e = refl
read_read false e = absurd (subst IsRead (sym e) tt)

write_read : (b : Bool) (c : ℕ) → pick b (r_write c) r_none ≡ r_read → ⊥
write_read true c e = subst IsRead (sym e) tt
write_read false c e = subst IsRead (sym e) tt

read_write : (b : Bool) (c : ℕ) → pick b r_read r_none ≡ r_write c → ⊥
read_write true c e = subst (IsWrite c) (sym e) refl
read_write false c e = subst (IsWrite c) (sym e) refl

write_write : (b : Bool) (d c : ℕ) → pick b (r_write d) r_none ≡ r_write c → (b ≡ true) × (d ≡ c)
write_write true d c e = (refl, subst (IsWrite c) (sym e) refl)
write_write false d c e = absurd (subst (IsWrite c) (sym e) refl)

read_waits : (s : System) (d : ℕ) (f : System → ℕ → Option StepResult) (z : Option StepResult) → read_byte s d ≡ must_wait → read_or s d f z ≡ none
read_waits s d f z e = rw e

-- nothing there yet: no step
pub waits_read : (s x : System) (w v : Process) (u u' : Builtin) (ρ : Bool → ℕ → ℕ → Type 0) → LikeBuiltin ρ false u u'
    → builtin_request x v u' ≡ r_read → read_byte s (builtin_source w u) ≡ must_wait → step_builtin s w u ≡ none
waits_read s x w v u u' ρ l_done a e = absurd (subst IsRead (sym a) tt)
waits_read s x w v u u' ρ (l_print {bs = []} h) a e = absurd (subst IsRead (sym a) tt)
waits_read s x w v u u' ρ (l_print {bs = b ∷ bs} h) a e = absurd (write_read _ b a)
waits_read s x w v u u' ρ l_cat a e = absurd (subst IsRead (sym a) tt)
waits_read s x w v u u' ρ (l_cat_on h) a e = read_waits s _ _ _ e
waits_read s x w v u u' ρ (l_head {n = zero}) a e = absurd (subst IsRead (sym a) tt)
waits_read s x w v u u' ρ (l_head {n = suc n}) a e = read_waits s _ _ _ e
waits_read s x w v u u' ρ l_wc a e = read_waits s _ _ _ e
waits_read s x w v u u' ρ l_grep a e = read_waits s _ _ _ e
waits_read s x w v u u' ρ l_seq a e = absurd (subst IsRead (sym a) tt)
waits_read s x w v u u' ρ l_yes a e = absurd (subst IsRead (sym a) tt)
waits_read s x w v u u' ρ l_read a e = read_waits s _ _ _ e

print_waits : (s : System) (w : Process) (b : ℕ) (bs : List ℕ) (u : Builtin) → write_byte s w.stdout b ≡ pipe_full → print_byte s w (b ∷ bs) u ≡ none
print_waits s w b bs u e = rw e

print_exits : (s : System) (w : Process) (b : ℕ) (bs : List ℕ) (u : Builtin) → write_byte s w.stdout b ≡ no_reader → print_byte s w (b ∷ bs) u ≡ some (exits 141 s)
print_exits s w b bs u e = rw e

pub waits_write : (s x : System) (w v : Process) (c : ℕ) (u u' : Builtin) (ρ : Bool → ℕ → ℕ → Type 0) → LikeBuiltin ρ false u u'
    → builtin_request x v u' ≡ r_write c → (is_host_paper (nth x.handles v.stdout) ≡ true)
    × (write_byte s w.stdout c ≡ pipe_full → step_builtin s w u ≡ none) × (write_byte s w.stdout c ≡ no_reader
    → step_builtin s w u ≡ some (exits 141 s))
waits_write s x w v c u u' ρ l_done a = absurd (subst (IsWrite c) (sym a) refl)
waits_write s x w v c u u' ρ (l_print {bs = []} h) a = absurd (subst (IsWrite c) (sym a) refl)
waits_write s x w v c u u' ρ (l_print {bs = b ∷ bs} h) a = let z = write_write (is_host_paper (nth x.handles v.stdout)) b c a in (
  z.0,
  λ e. print_waits s w b bs _ (ap (λ n. write_byte s w.stdout n) z.1 ∙ e),
  λ e. print_exits s w b bs _
      (ap (λ n. write_byte s w.stdout n) z.1 ∙ e),
)
waits_write s x w v c u u' ρ l_cat a = absurd (subst (IsWrite c) (sym a) refl)
waits_write s x w v c u u' ρ (l_cat_on h) a = absurd (read_write _ c a)
waits_write s x w v c u u' ρ (l_head {n = zero}) a = absurd (subst (IsWrite c) (sym a) refl)
waits_write s x w v c u u' ρ (l_head {n = suc n}) a = absurd (read_write _ c a)
waits_write s x w v c u u' ρ l_wc a = absurd (read_write _ c a)
waits_write s x w v c u u' ρ l_grep a = absurd (read_write _ c a)
waits_write s x w v c u u' ρ l_seq a = absurd (subst (IsWrite c) (sym a) refl)
waits_write s x w v c u u' ρ l_yes a = absurd (subst (IsWrite c) (sym a) refl)
waits_write s x w v c u u' ρ l_read a = absurd (read_write _ c a)

-- i0 and o0 are the outside's ends: what the process reads from and writes to
module _ (i0 o0 : Handle) (ki : InputHandle i0) (ko : OutputHandle o0) (table : List ℕ) (s : System) where
  abbrev pub extended : List ℕ
  extended = table ++ (length s.handles ∷ [])

  abbrev pub ρ : Bool → ℕ → ℕ → Type 0
  ρ z i a = nth (pick z extended table) a ≡ some i

  pub record Q (t y : System) : Type 0 where
    pub agrees : Agrees i0 o0 table t y
    pub preserves : Preserves table s t
    pub level : length t.handles ≡ length s.handles

  pub record Q' (t y : System) : Type 0 where
    pub agrees : Agrees i0 o0 extended t y
    pub preserves : Preserves table s t

  pub qf : (t y : System) → Q t y → t.files ≡ y.files
  qf t y q = q.agrees.files

  pub cf : (t y : System) (fs : List File) → Q t y → Q (with_files t fs) (with_files y fs)
  cf t y fs q = record {
    agrees = record {
      lengths = q.agrees.lengths;
      within = q.agrees.within;
      once = q.agrees.once;
      alike = q.agrees.alike;
      files = refl;
    };
    preserves = record {
      processes = q.preserves.processes;
      next1 = q.preserves.next1;
      pipes = q.preserves.pipes;
      input = q.preserves.input;
      paper = q.preserves.paper;
      exited = q.preserves.exited;
      longer = q.preserves.longer;
      others = q.preserves.others;
    };
    level = q.level;
  }

  pub fr : (t y : System) → Q t y → ρ true (length t.handles) (length y.handles)
  fr t y q = ap (λ n. nth extended n) (sym q.agrees.lengths) ∙ nth_new table (length s.handles) ∙ ap some (sym q.level)

  pub up : (i j : ℕ) → ρ false i j → ρ true i j
  up i j e = nth_old table _ j (nth_lt table j i e) ∙ e

  alike_private : (o : Handle) → Private o → Alike i0 o0 (some o) (some o)
  alike_private (file_read x n) h = refl
  alike_private (file_append x) h = refl
  alike_private (pipe_read p) h = absurd h
  alike_private (pipe_write p) h = absurd h
  alike_private host_input h = absurd h
  alike_private host_paper h = absurd h
  alike_private (here_text bs) h = refl

  pub two : (p p' q q' : Option Handle) → p ≡ p' → q ≡ q' → Alike i0 o0 p q → Alike i0 o0 p' q'
  two p p' q q' e f h = subst (λ z. Alike i0 o0 z q') e (subst (λ z. Alike i0 o0 p z) f h)

  pub oq : (t y : System) (o : Handle) → Private o → Q t y → Q' (open_handle t o) (open_handle y o)
  oq t y o po q = record {
    agrees = record {
      lengths = length_snoc table _ ∙ ap (λ n. suc n) q.agrees.lengths ∙ sym (length_snoc y.handles o);
      within = λ a i e. within1 a i (nth_snoc table _ a i e);
      once = λ a b i e f. once1 a b i (nth_snoc table _ a i e) (nth_snoc table _ b i f);
      alike = λ a i e. alike1 a i (nth_snoc table _ a i e);
      files = q.agrees.files;
    };
    preserves = record {
      processes = q.preserves.processes;
      next1 = q.preserves.next1;
      pipes = q.preserves.pipes;
      input = q.preserves.input;
      paper = q.preserves.paper;
      exited = q.preserves.exited;
      longer = omega (arith, length_snoc t.handles o, q.level);
      others = λ i h g. nth_old t.handles _ i (omega (arith, q.level)) ∙ q.preserves.others i h g;
    };
  }
    where
      within1 : (a i : ℕ) → (nth table a ≡ some i) ⊎ ((a ≡ length table) × (i ≡ length s.handles)) → i < length (t.handles ++ (o ∷ []))
      within1 a i (inl h) = omega (arith, q.agrees.within a i h, length_snoc t.handles o)
      within1 a i (inr h) = omega (arith, h.1, q.level, length_snoc t.handles o)

      once1 : (a b i : ℕ) → (nth table a ≡ some i) ⊎ ((a ≡ length table) × (i ≡ length s.handles)) → (nth table b ≡ some i)
          ⊎ ((b ≡ length table) × (i ≡ length s.handles)) → a ≡ b
      once1 a b i (inl h) (inl k) = q.agrees.once a b i h k
      once1 a b i (inl h) (inr k) = absurd (omega (arith, q.agrees.within a i h, k.1, q.level))
      once1 a b i (inr h) (inl k) = absurd (omega (arith, q.agrees.within b i k, h.1, q.level))
      once1 a b i (inr h) (inr k) = h.0 ∙ sym k.0

      alike1 : (a i : ℕ) → (nth table a ≡ some i) ⊎ ((a ≡ length table) × (i ≡ length s.handles)) → Alike i0 o0 (nth (t.handles ++ (o ∷ [])) i) (nth (y.handles ++ (o ∷ [])) a)
      alike1 a i (inl h) = two _ _ _ _ (sym (nth_old t.handles _ i (q.agrees.within a i h)))
          (sym (nth_old y.handles _ a (omega (arith, nth_lt table a i h, q.agrees.lengths)))) (q.agrees.alike a i h)
      alike1 a i (inr h) = two _ _ _ _ (sym (ap (λ n. nth (t.handles ++ (o ∷ [])) n) (h.1 ∙ sym q.level) ∙ nth_new t.handles o))
          (sym (ap (λ n. nth (y.handles ++ (o ∷ [])) n) (h.0 ∙ q.agrees.lengths) ∙ nth_new y.handles o)) (alike_private o po)

  -- a place in a file or a text moves on
  put_q : (x : System) (d e : ℕ) (o : Handle) → nth table e ≡ some d → (Fixed (nth s.handles d) → ⊥) → Private o → Q s x
      → Q (with_handles s (put s.handles d o)) (with_handles x (put x.handles e o))
  put_q x d e o r nf po q = record {
    agrees = record {
      lengths = q.agrees.lengths ∙ sym (put_length x.handles e o);
      within = λ a i h. omega (arith, q.agrees.within a i h, put_length s.handles d o);
      once = q.agrees.once;
      alike = λ a i h. by a i h (equal_or_not i d);
      files = q.agrees.files;
    };
    preserves = record {
      processes = refl;
      next1 = refl;
      pipes = refl;
      input = refl;
      paper = refl;
      exited = refl;
      longer = omega (arith, put_length s.handles d o);
      others = λ i h g. oth i g (equal_or_not i d);
    };
    level = put_length s.handles d o;
  }
    where
      by : (a i : ℕ) → nth table a ≡ some i → (i ≡ d) ⊎ (i ≡ d → ⊥) → Alike i0 o0 (nth (put s.handles d o) i) (nth (put x.handles e o) a)
      by a i h (inl p) = two _ _ _ _ (sym (ap (λ n. nth (put s.handles d o) n) p ∙ put_same s.handles d o (q.agrees.within e d r)))
          (sym (ap (λ n. nth (put x.handles e o) n) (q.agrees.once a e d (h ∙ ap some p) r)
          ∙ put_same x.handles e o (omega (arith, nth_lt table e d r, q.agrees.lengths)))) (alike_private o po)
      by a i h (inr p) = two _ _ _ _ (sym (put_other s.handles d i o (λ z. p (sym z))))
          (sym (put_other x.handles e a o (λ z. p (inside (sym h ∙ ap (λ n. nth table n) (sym z) ∙ r))))) (q.agrees.alike a i h)

      oth : (i : ℕ) → ((a : ℕ) → nth table a ≡ some i → Fixed (nth s.handles i)) → (i ≡ d) ⊎ (i ≡ d → ⊥) → nth (put s.handles d o) i ≡ nth s.handles i
      oth i g (inl p) = absurd (nf (subst (λ n. Fixed (nth s.handles n)) p (g e (r ∙ ap some (sym p)))))
      oth i g (inr p) = put_other s.handles d i o (λ z. p (sym z))

  abbrev LocalRead : System → System → ReadByte → ReadByte → Type 0
  LocalRead = LikeRead ρ Q Q' qf cf oq fr up

  abbrev LocalWrite : System → System → WriteByte → WriteByte → Type 0
  LocalWrite = LikeWrite ρ Q Q' qf cf oq fr up

  alike_at : (x : System) (q : Q s x) (d e : ℕ) → nth table e ≡ some d → (a b : Option Handle) → nth s.handles d ≡ a → nth x.handles e ≡ b → Alike i0 o0 a b
  alike_at x q d e r a b f g = two _ _ _ _ f g (q.agrees.alike e d r)

  read_place : (x : System) (q : Q s x) (d e : ℕ) (n : Name) (m : ℕ) → nth table e ≡ some d → nth s.handles d ≡ some (file_read n m)
      → LocalRead s x (read_handle s d (file_read n m)) (read_handle x e (file_read n m))
  read_place x q d e n m r f = subst (λ fs. LocalRead s x (read_handle s d (file_read n m))
      (opt (on_some (find_file fs n) (λ bs. nth bs m)) at_end (λ b. got b (with_handles x (put x.handles e (file_read n (suc m)))))))
      q.agrees.files (by (on_some (find_file s.files n) (λ bs. nth bs m)))
    where
      by : (o : Option ℕ) → LocalRead s x (opt o at_end (λ b. got b (with_handles s (put s.handles d (file_read n (suc m))))))
          (opt o at_end (λ b. got b (with_handles x (put x.handles e (file_read n (suc m))))))
      by none = q
      by (some b) = (refl, put_q x d e (file_read n (suc m)) r (λ h. subst Fixed f h) tt q)

  read_text_local : (x : System) (q : Q s x) (d e : ℕ) (bs : List ℕ) → nth table e ≡ some d → nth s.handles d ≡ some (here_text bs)
      → LocalRead s x (read_text s d bs) (read_text x e bs)
  read_text_local x q d e [] r f = q
  read_text_local x q d e (b ∷ bs) r f = (refl, put_q x d e (here_text bs) r (λ h. subst Fixed f h) tt q)

  none_kind : (x : System) (q : Q s x) (d : ℕ) (o : Handle) → OutputHandle o → LocalRead s x (read_handle s d o) at_end
  none_kind x q d (file_read n m) h = absurd h
  none_kind x q d (file_append n) h = absurd h
  none_kind x q d (pipe_read p) h = absurd h
  none_kind x q d (pipe_write p) h = q
  none_kind x q d host_input h = absurd h
  none_kind x q d host_paper h = q
  none_kind x q d (here_text bs) h = absurd h

  read_own : (x : System) (q : Q s x) (d e : ℕ) → nth table e ≡ some d → is_host_input (nth x.handles e) ≡ false → LocalRead s x (read_byte s d) (read_byte x e)
  read_own x q d e r ni = by (nth s.handles d) (nth x.handles e) refl refl ni
    where
      by : (a b : Option Handle) → nth s.handles d ≡ a → nth x.handles e ≡ b → is_host_input b ≡ false
          → LocalRead s x (opt a at_end (read_handle s d)) (opt b at_end (read_handle x e))
      by none none f g h = q
      by none (some o) f g h = absurd (alike_at x q d e r none (some o) f g)
      by (some p) none f g h = absurd (alike_at x q d e r (some p) none f g)
      by (some p) (some (file_read n m)) f g h = let z = alike_at x q d e r (some p) (some (file_read n m)) f g in subst
          (λ u. LocalRead s x (read_handle s d u) (read_handle x e (file_read n m))) (sym z) (read_place x q d e n m r (f ∙ ap some z))
      by (some p) (some (file_append n)) f g h = let z = alike_at x q d e r (some p) (some (file_append n)) f g in subst
          (λ u. LocalRead s x (read_handle s d u) (read_handle x e (file_append n))) (sym z) q
      by (some p) (some (pipe_read n)) f g h = absurd (alike_at x q d e r (some p) (some (pipe_read n)) f g)
      by (some p) (some (pipe_write n)) f g h = absurd (alike_at x q d e r (some p) (some (pipe_write n)) f g)
      by (some p) (some host_input) f g h = absurd (no_true h)
        where
          no_true : true ≡ false → ⊥
          no_true e = subst (λ z. Fixed (pick z none (some (here_text [])))) e tt
      by (some p) (some host_paper) f g h = let z = alike_at x q d e r (some p) (some host_paper) f g in subst
          (λ u. LocalRead s x (read_handle s d u) at_end) (sym z) (none_kind x q d o0 ko)
      by (some p) (some (here_text bs)) f g h = let z = alike_at x q d e r (some p) (some (here_text bs)) f g in subst
          (λ u. LocalRead s x (read_handle s d u) (read_handle x e (here_text bs))) (sym z) (read_text_local x q d e bs r (f ∙ ap some z))

  wrote_kind : (x : System) (q : Q s x) (b : ℕ) (o : Handle) → InputHandle o → LocalWrite s x (write_handle s b o) (wrote x)
  wrote_kind x q b (file_read n m) h = absurd h
  wrote_kind x q b (file_append n) h = absurd h
  wrote_kind x q b (pipe_read p) h = q
  wrote_kind x q b (pipe_write p) h = absurd h
  wrote_kind x q b host_input h = q
  wrote_kind x q b host_paper h = absurd h
  wrote_kind x q b (here_text bs) h = absurd h

  write_own : (x : System) (q : Q s x) (d e b : ℕ) → nth table e ≡ some d → is_host_paper (nth x.handles e) ≡ false → LocalWrite s x (write_byte s d b) (write_byte x e b)
  write_own x q d e b r ni = by (nth s.handles d) (nth x.handles e) refl refl ni
    where
      by : (u v : Option Handle) → nth s.handles d ≡ u → nth x.handles e ≡ v → is_host_paper v ≡ false
          → LocalWrite s x (opt u no_reader (write_handle s b)) (opt v no_reader (write_handle x b))
      by none none f g h = q
      by none (some o) f g h = absurd (alike_at x q d e r none (some o) f g)
      by (some p) none f g h = absurd (alike_at x q d e r (some p) none f g)
      by (some p) (some (file_read n m)) f g h = let z = alike_at x q d e r (some p) (some (file_read n m)) f g in subst
          (λ u. LocalWrite s x (write_handle s b u) (wrote x)) (sym z) q
      by (some p) (some (file_append n)) f g h = let z = alike_at x q d e r (some p) (some (file_append n)) f g in subst
          (λ u. LocalWrite s x (write_handle s b u) (write_handle x b (file_append n))) (sym z)
          (subst (λ fs. Q (with_files s (set_file s.files n (opt (find_file s.files n) [] (λ bs. bs) ++ (b ∷ []))))
          (with_files x (set_file fs n (opt (find_file fs n) [] (λ bs. bs) ++ (b ∷ []))))) q.agrees.files (cf s x _ q))
      by (some p) (some (pipe_read n)) f g h = absurd (alike_at x q d e r (some p) (some (pipe_read n)) f g)
      by (some p) (some (pipe_write n)) f g h = absurd (alike_at x q d e r (some p) (some (pipe_write n)) f g)
      by (some p) (some host_input) f g h = let z = alike_at x q d e r (some p) (some host_input) f g in subst
          (λ u. LocalWrite s x (write_handle s b u) (wrote x)) (sym z) (wrote_kind x q b i0 ki)
      by (some p) (some host_paper) f g h = absurd (no_true h)
        where
          no_true : true ≡ false → ⊥
          no_true e = subst (λ z. Fixed (pick z none (some (here_text [])))) e tt
      by (some p) (some (here_text bs)) f g h = let z = alike_at x q d e r (some p) (some (here_text bs)) f g in subst
          (λ u. LocalWrite s x (write_handle s b u) (wrote x)) (sym z) q

  abbrev IoOwnBuiltin : (r x : System) (w : Process) (i o : ℕ) (u v : Builtin) → LikeBuiltin ρ false u v → Type 0
  IoOwnBuiltin = IoBuiltin ρ Q Q' qf cf oq fr up

  abbrev pub IoOwnControl : (r x : System) (w : Process) (i o : ℕ) (d e : Control) → LikeControl ρ false d e → Type 0
  IoOwnControl = IoControl ρ Q Q' qf cf oq fr up

  own_builtin : (x : System) (q : Q s x) (w v : Process) → ρ false w.stdin v.stdin → ρ false w.stdout v.stdout
      → (u u' : Builtin) (l : LikeBuiltin ρ false u u') → builtin_request x v u' ≡ r_none → IoOwnBuiltin s x w v.stdin v.stdout u u' l
  own_builtin x q w v hi ho u u' l_done a = q
  own_builtin x q w v hi ho u u' (l_print {bs = []} h) a = q
  own_builtin x q w v hi ho u u' (l_print {bs = b ∷ bs} h) a = write_own x q w.stdout v.stdout b ho (none_write _ b a)
  own_builtin x q w v hi ho u u' l_cat a = q
  own_builtin x q w v hi ho u u' (l_cat_on h) a = read_own x q _ _ h (none_read _ a)
  own_builtin x q w v hi ho u u' (l_head {n = zero}) a = q
  own_builtin x q w v hi ho u u' (l_head {n = suc n}) a = read_own x q w.stdin v.stdin hi (none_read _ a)
  own_builtin x q w v hi ho u u' l_wc a = read_own x q w.stdin v.stdin hi (none_read _ a)
  own_builtin x q w v hi ho u u' l_grep a = read_own x q w.stdin v.stdin hi (none_read _ a)
  own_builtin x q w v hi ho u u' l_seq a = q
  own_builtin x q w v hi ho u u' l_yes a = q
  own_builtin x q w v hi ho u u' l_read a = read_own x q w.stdin v.stdin hi (none_read _ a)

  pub own_control : (x : System) (q : Q s x) (w v : Process) → ρ false w.stdin v.stdin → ρ false w.stdout v.stdout
      → (c c' : Control) (l : LikeControl ρ false c c') → request x v c' ≡ r_none → IoOwnControl s x w v.stdin v.stdout c c' l
  own_control x q w v hi ho c c' l_list a = q
  own_control x q w v hi ho c c' l_and_or a = q
  own_control x q w v hi ho c c' l_pipeline a = q
  own_control x q w v hi ho c c' l_command a = q
  own_control x q w v hi ho c c' l_words a = q
  own_control x q w v hi ho c c' l_redirects a = q
  own_control x q w v hi ho c c' (l_builtin {u = u} {v = u'} h) a = own_builtin x q w v hi ho u u' h a
  own_control x q w v hi ho c c' l_status a = q
  own_control x q w v hi ho c c' l_unwind a = q
  own_control x q w v hi ho c c' l_wait a = q
  own_control x q w v hi ho c c' (l_capture h) a = read_own x q _ _ h (none_read _ a)

  pub read_builtin : (r x y : System) (w v : Process) → ρ false w.stdin v.stdin → (u u' : Builtin) (l : LikeBuiltin ρ false u u')
      → builtin_request x v u' ≡ r_read → (nth table (builtin_source v u') ≡ some (builtin_source w u))
      × (is_host_input (nth x.handles (builtin_source v u')) ≡ true) × (LocalRead r y (read_byte r (builtin_source w u))
      (read_byte y (builtin_source v u')) → IoOwnBuiltin r y w v.stdin v.stdout u u' l)
  read_builtin r x y w v hi u u' l_done a = absurd (subst IsRead (sym a) tt)
  read_builtin r x y w v hi u u' (l_print {bs = []} h) a = absurd (subst IsRead (sym a) tt)
  read_builtin r x y w v hi u u' (l_print {bs = b ∷ bs} h) a = absurd (write_read _ b a)
  read_builtin r x y w v hi u u' l_cat a = absurd (subst IsRead (sym a) tt)
  read_builtin r x y w v hi u u' (l_cat_on h) a = (h, read_read _ a, λ g. g)
  read_builtin r x y w v hi u u' (l_head {n = zero}) a = absurd (subst IsRead (sym a) tt)
  read_builtin r x y w v hi u u' (l_head {n = suc n}) a = (hi, read_read _ a, λ g. g)
  read_builtin r x y w v hi u u' l_wc a = (hi, read_read _ a, λ g. g)
  read_builtin r x y w v hi u u' l_grep a = (hi, read_read _ a, λ g. g)
  read_builtin r x y w v hi u u' l_seq a = absurd (subst IsRead (sym a) tt)
  read_builtin r x y w v hi u u' l_yes a = absurd (subst IsRead (sym a) tt)
  read_builtin r x y w v hi u u' l_read a = (hi, read_read _ a, λ g. g)

  pub write_builtin : (r x y : System) (w v : Process) (c : ℕ) (u u' : Builtin) (l : LikeBuiltin ρ false u u') → builtin_request x v u' ≡ r_write c
      → LocalWrite r y (write_byte r w.stdout c) (write_byte y v.stdout c) → IoOwnBuiltin r y w v.stdin v.stdout u u' l
  write_builtin r x y w v c u u' l_done a g = absurd (subst (IsWrite c) (sym a) refl)
  write_builtin r x y w v c u u' (l_print {bs = []} h) a g = absurd (subst (IsWrite c) (sym a) refl)
  write_builtin r x y w v c u u' (l_print {bs = b ∷ bs} h) a g = let z = write_write (is_host_paper (nth x.handles v.stdout)) b c a in subst
      (λ n. LocalWrite r y (write_byte r w.stdout n) (write_byte y v.stdout n)) (sym z.1) g
  write_builtin r x y w v c u u' l_cat a g = absurd (subst (IsWrite c) (sym a) refl)
  write_builtin r x y w v c u u' (l_cat_on h) a g = absurd (read_write _ c a)
  write_builtin r x y w v c u u' (l_head {n = zero}) a g = absurd (subst (IsWrite c) (sym a) refl)
  write_builtin r x y w v c u u' (l_head {n = suc n}) a g = absurd (read_write _ c a)
  write_builtin r x y w v c u u' l_wc a g = absurd (read_write _ c a)
  write_builtin r x y w v c u u' l_grep a g = absurd (read_write _ c a)
  write_builtin r x y w v c u u' l_seq a g = absurd (subst (IsWrite c) (sym a) refl)
  write_builtin r x y w v c u u' l_yes a g = absurd (subst (IsWrite c) (sym a) refl)
  write_builtin r x y w v c u u' l_read a g = absurd (read_write _ c a)

-- a process that reads goes on, and so does one that writes and finds room
abbrev Continues : Option StepResult → Type 0
Continues none = Unit {0}
Continues (some (continues w s)) = Unit {0}
Continues (some (exits n s)) = ⊥

continues_pick : (b : Bool) (x y : Option StepResult) → Continues x → Continues y → Continues (pick b x y)
continues_pick true x y h k = h
continues_pick false x y h k = k

read_or_continues : (s : System) (d : ℕ) (f : System → ℕ → Option StepResult) (z : Option StepResult) → ((t : System) (b : ℕ) → Continues (f t b))
    → Continues z → Continues (read_or s d f z)
read_or_continues s d f z k h = by (read_byte s d) refl
  where
    by : (g : ReadByte) → read_byte s d ≡ g → Continues (read_or s d f z)
    by (got b t) e = rw e (k t b)
    by at_end e = rw e h
    by must_wait e = rw e tt

grep_last_continues : (s : System) (w : Process) (p l : List ℕ) (f : Bool) → Continues (grep_last s w p l f)
grep_last_continues s w p [] f = tt
grep_last_continues s w p (c ∷ cs) f = search continues_pick

pub read_continues : (s x : System) (w v : Process) (u u' : Builtin) (ρ : Bool → ℕ → ℕ → Type 0) → LikeBuiltin ρ false u u'
    → builtin_request x v u' ≡ r_read → Continues (step_builtin s w u)
read_continues s x w v u u' ρ l_done a = absurd (subst IsRead (sym a) tt)
read_continues s x w v u u' ρ (l_print {bs = []} h) a = absurd (subst IsRead (sym a) tt)
read_continues s x w v u u' ρ (l_print {bs = b ∷ bs} h) a = absurd (write_read _ b a)
read_continues s x w v u u' ρ l_cat a = absurd (subst IsRead (sym a) tt)
read_continues s x w v u u' ρ (l_cat_on h) a = read_or_continues s _ _ _ (λ t b. tt) tt
read_continues s x w v u u' ρ (l_head {n = zero}) a = absurd (subst IsRead (sym a) tt)
read_continues s x w v u u' ρ (l_head {n = suc n}) a = read_or_continues s _ _ _ (λ t b. tt) tt
read_continues s x w v u u' ρ l_wc a = read_or_continues s _ _ _ (λ t b. tt) tt
read_continues s x w v u u' ρ (l_grep {p = p} {l = l} {b = f}) a = read_or_continues s _ _ _ (search continues_pick) (grep_last_continues s w p l f)
read_continues s x w v u u' ρ l_seq a = absurd (subst IsRead (sym a) tt)
read_continues s x w v u u' ρ l_yes a = absurd (subst IsRead (sym a) tt)
read_continues s x w v u u' ρ l_read a = read_or_continues s _ _ _ (λ t b. continues_pick (eqb b 10) _ _ tt tt) tt

print_continues : (s t : System) (w : Process) (b : ℕ) (bs : List ℕ) (u : Builtin) → write_byte s w.stdout b ≡ wrote t → Continues (print_byte s w (b ∷ bs) u)
print_continues s t w b bs u e = rw e tt

pub write_continues : (s t x : System) (w v : Process) (c : ℕ) (u u' : Builtin) (ρ : Bool → ℕ → ℕ → Type 0) → LikeBuiltin ρ false u u'
    → builtin_request x v u' ≡ r_write c → write_byte s w.stdout c ≡ wrote t → Continues (step_builtin s w u)
write_continues s t x w v c u u' ρ l_done a e = absurd (subst (IsWrite c) (sym a) refl)
write_continues s t x w v c u u' ρ (l_print {bs = []} h) a e = absurd (subst (IsWrite c) (sym a) refl)
write_continues s t x w v c u u' ρ (l_print {bs = b ∷ bs} h) a e = print_continues s t w b bs _ (ap (λ n. write_byte s w.stdout n) (write_write _ b c a).1 ∙ e)
write_continues s t x w v c u u' ρ l_cat a e = absurd (subst (IsWrite c) (sym a) refl)
write_continues s t x w v c u u' ρ (l_cat_on h) a e = absurd (read_write _ c a)
write_continues s t x w v c u u' ρ (l_head {n = zero}) a e = absurd (subst (IsWrite c) (sym a) refl)
write_continues s t x w v c u u' ρ (l_head {n = suc n}) a e = absurd (read_write _ c a)
write_continues s t x w v c u u' ρ l_wc a e = absurd (read_write _ c a)
write_continues s t x w v c u u' ρ l_grep a e = absurd (read_write _ c a)
write_continues s t x w v c u u' ρ l_seq a e = absurd (subst (IsWrite c) (sym a) refl)
write_continues s t x w v c u u' ρ l_yes a e = absurd (subst (IsWrite c) (sym a) refl)
write_continues s t x w v c u u' ρ l_read a e = absurd (read_write _ c a)

abbrev pub NotCapture : Control → Type 0
NotCapture (at_list l) = Unit {0}
NotCapture (at_and_or a) = Unit {0}
NotCapture (at_pipeline n p) = Unit {0}
NotCapture (at_command c) = Unit {0}
NotCapture (at_words a y) = Unit {0}
NotCapture (at_redirects ts t) = Unit {0}
NotCapture (at_builtin u) = Unit {0}
NotCapture (at_status n) = Unit {0}
NotCapture (at_unwind t n) = Unit {0}
NotCapture (at_wait ps) = Unit {0}
NotCapture (at_capture d bs q a y) = ⊥

-- only a builtin reads or writes
data BuiltinOf (ρ : Bool → ℕ → ℕ → Type 0) : (c c' : Control) → LikeControl ρ false c c' → Type 0 where
  builtin_of : {u u' : Builtin} (h : LikeBuiltin ρ false u u') → BuiltinOf ρ (at_builtin u) (at_builtin u') (l_builtin h)

is_builtin : (ρ : Bool → ℕ → ℕ → Type 0) (x : System) (v : Process) (c c' : Control) (l : LikeControl ρ false c c') → NotCapture c
    → (IsNone (request x v c') → ⊥) → BuiltinOf ρ c c' l
is_builtin ρ x v c c' l_list n a = absurd (a tt)
is_builtin ρ x v c c' l_and_or n a = absurd (a tt)
is_builtin ρ x v c c' l_pipeline n a = absurd (a tt)
is_builtin ρ x v c c' l_command n a = absurd (a tt)
is_builtin ρ x v c c' l_words n a = absurd (a tt)
is_builtin ρ x v c c' l_redirects n a = absurd (a tt)
is_builtin ρ x v c c' (l_builtin h) n a = builtin_of h
is_builtin ρ x v c c' l_status n a = absurd (a tt)
is_builtin ρ x v c c' l_unwind n a = absurd (a tt)
is_builtin ρ x v c c' l_wait n a = absurd (a tt)
is_builtin ρ x v c c' (l_capture h) n a = absurd n

-- the effect of an action on the system
pub record Simulates (i0 o0 : Handle) (table : List ℕ) (s : System) (w : Process) (y : Local) : Type 0 where
  pub like : LikeProcess (Table table) false w y.process
  pub agrees : Agrees i0 o0 table s y.system

abbrev pub Ended : Handle → System → Type 0
Ended (file_read x n) s = ⊥
Ended (file_append x) s = ⊥
Ended (pipe_read p) s = (nth s.pipes p ≡ some []) × (held s.handles (writes_pipe p) s.processes ≡ false)
Ended (pipe_write p) s = ⊥
Ended host_input s = Unit {0}
Ended host_paper s = ⊥
Ended (here_text bs) s = ⊥

pub data Effect (i0 o0 : Handle) (s : System) : Event → System → Type 0 where
  x_silent : Effect i0 o0 s e_silent s
  x_read : {p b : ℕ} {bs : List ℕ} → i0 ≡ pipe_read p → nth s.pipes p ≡ some (b ∷ bs) → Effect i0 o0 s (e_read (some b)) (with_pipes s (put s.pipes p bs))
  x_end : Ended i0 s → Effect i0 o0 s (e_read none) s
  x_paper : {b : ℕ} → o0 ≡ host_paper → Effect i0 o0 s (e_write b) (with_paper s (s.paper ++ (b ∷ [])))
  x_pipe : {p b : ℕ} {bs : List ℕ} → o0 ≡ pipe_write p → nth s.pipes p ≡ some bs → Effect i0 o0 s (e_write b) (with_pipes s (put s.pipes p (bs ++ (b ∷ []))))

abbrev pub Grown : List ℕ → System → List ℕ → System → Type 0
Grown table s table' t = (table' ≡ table) ⊎ (table' ≡ table ++ (length s.handles ∷ []))

pub record Moved (i0 o0 : Handle) (table : List ℕ) (s : System) (y : Local) (v : Process) (t : System) : Type 0 where
  pub event : Event
  pub target : Local
  pub fires : Fires Local local_step y event target
  pub mid : System
  pub effect : Effect i0 o0 s event mid
  pub table' : List ℕ
  pub simulates : Simulates i0 o0 table' t v target
  pub preserves : Preserves table mid t
  pub grown : Grown table s table' t

abbrev pub Simulated : Handle → Handle → List ℕ → System → Local → StepResult → Type 0
Simulated i0 o0 table s y (continues v t) = Moved i0 o0 table s y v t
Simulated i0 o0 table s y (exits n t) = ((local_step y ≡ finished n) × Preserves table s t)
    ⊎ ((n ≡ 141) × (t ≡ s) × ((p : ℕ) × (o0 ≡ pipe_write p) × (held s.handles (reads_pipe p) s.processes ≡ false)))

abbrev pub InputThere : Handle → System → Type 0
InputThere (file_read x n) s = ⊥
InputThere (file_append x) s = ⊥
InputThere (pipe_read p) s = (bs : List ℕ) × (nth s.pipes p ≡ some bs)
InputThere (pipe_write p) s = ⊥
InputThere host_input s = Unit {0}
InputThere host_paper s = ⊥
InputThere (here_text bs) s = ⊥

abbrev pub OutputThere : Handle → System → Type 0
OutputThere (file_read x n) s = ⊥
OutputThere (file_append x) s = ⊥
OutputThere (pipe_read p) s = ⊥
OutputThere (pipe_write p) s = (bs : List ℕ) × (nth s.pipes p ≡ some bs)
OutputThere host_input s = ⊥
OutputThere host_paper s = Unit {0}
OutputThere (here_text bs) s = ⊥

twin_is : (ρ : Bool → ℕ → ℕ → Type 0) (w v : Process) → LikeProcess ρ false w v → twin ρ w v.pid v.control v.frames v.stdin v.stdout ≡ v
twin_is ρ w v h = λ i. record {
  pid = v.pid;
  control = v.control;
  frames = v.frames;
  stdin = v.stdin;
  stdout = v.stdout;
  variables = sym h.variables i;
  functions = sym h.functions i;
  arguments = sym h.arguments i;
  status = sym h.status i;
  jobs = sym h.jobs i;
}

module _ (i0 o0 : Handle) (ki : InputHandle i0) (ko : OutputHandle o0) (table : List ℕ) where
  -- both take the step, with the same answer from the outside; mid is the system after the answer
  abbrev LikeOutside : System → Option StepResult → Option StepResult → Type 0
  LikeOutside mid = LikeStep (ρ i0 o0 ki ko table mid) (Q i0 o0 ki ko table mid) (Q' i0 o0 ki ko table mid) (qf i0 o0 ki ko table mid)
      (cf i0 o0 ki ko table mid) (oq i0 o0 ki ko table mid) (fr i0 o0 ki ko table mid) (up i0 o0 ki ko table mid)

  as_ρ : (mid : System) (w v : Process) → LikeProcess (Table table) false w v → LikeProcess (ρ i0 o0 ki ko table mid) false w v
  as_ρ mid w v h = map_process (Table table) (ρ i0 o0 ki ko table mid) false false (λ i j e. e) w v h

  both_step : (s mid x : System) (w v : Process) (h : LikeProcess (ρ i0 o0 ki ko table mid) false w v) → Sequential w.control
      → IoOwnControl i0 o0 ki ko table mid s x w v.stdin v.stdout w.control v.control h.control
      → LikeOutside mid (step s w) (step x v)
  both_step s mid x w v h q io = subst (λ u. LikeOutside mid (step s w) (step_control x u v.control)) (twin_is (ρ i0 o0 ki ko table mid) w v h)
      (step_like (ρ i0 o0 ki ko table mid) (Q i0 o0 ki ko table mid) (Q' i0 o0 ki ko table mid) (qf i0 o0 ki ko table mid) (cf i0 o0 ki ko table mid)
      (oq i0 o0 ki ko table mid) (fr i0 o0 ki ko table mid) (up i0 o0 ki ko table mid) s x w w.control v.control v.pid v.control
      v.frames v.stdin v.stdout h.frames h.stdin h.stdout h.control q io)

  abbrev Collected : System → StepResult → Option StepResult → Type 0
  Collected mid (continues w t) o = (v : Process) × (x : System) × (o ≡ some (continues v x))
      × ((table' : List ℕ) × Simulates i0 o0 table' t w (record { system = x; process = v }) × Preserves table mid t × Grown table mid table' t)
  Collected mid (exits n t) o = (x : System) × (o ≡ some (exits n x)) × Preserves table mid t

  collect : (mid : System) (a : StepResult) (o : Option StepResult) → LikeOutside mid (some a) o → Collected mid a o
  collect mid (continues w t) none h = absurd h
  collect mid (continues w t) (some (continues v x)) (inl h) = (
    v,
    x,
    refl,
    (
      table,
      record { like = map_process (ρ i0 o0 ki ko table mid) (Table table) false false (λ i j e. e) w v h.0; agrees = h.1.agrees },
      h.1.preserves,
      inl refl,
    ),
  )
  collect mid (continues w t) (some (continues v x)) (inr h) = (
    v,
    x,
    refl,
    (
      extended i0 o0 ki ko table mid,
      record {
        like = map_process (ρ i0 o0 ki ko table mid) (Table (extended i0 o0 ki ko table mid)) true false (λ i j e. e) w v h.0;
        agrees = h.1.agrees;
      },
      h.1.preserves,
      inr refl,
    ),
  )
  collect mid (continues w t) (some (exits n x)) h = absurd h
  collect mid (exits n t) none h = absurd h
  collect mid (exits n t) (some (continues v x)) h = absurd h
  collect mid (exits n t) (some (exits m x)) h = (x, ap (λ z. some (exits z x)) (sym h.0), h.1.preserves)

  is_host_input_is : (o : Option Handle) → is_host_input o ≡ true → o ≡ some host_input
  is_host_input_is none e = absurd (subst (λ z. Fixed (pick z (some (here_text [])) none)) e tt)
  is_host_input_is (some (file_read x n)) e = absurd (subst (λ z. Fixed (pick z (some (here_text [])) none)) e tt)
  is_host_input_is (some (file_append x)) e = absurd (subst (λ z. Fixed (pick z (some (here_text [])) none)) e tt)
  is_host_input_is (some (pipe_read x)) e = absurd (subst (λ z. Fixed (pick z (some (here_text [])) none)) e tt)
  is_host_input_is (some (pipe_write x)) e = absurd (subst (λ z. Fixed (pick z (some (here_text [])) none)) e tt)
  is_host_input_is (some host_input) e = refl
  is_host_input_is (some host_paper) e = absurd (subst (λ z. Fixed (pick z (some (here_text [])) none)) e tt)
  is_host_input_is (some (here_text x)) e = absurd (subst (λ z. Fixed (pick z (some (here_text [])) none)) e tt)

  is_host_paper_is : (o : Option Handle) → is_host_paper o ≡ true → o ≡ some host_paper
  is_host_paper_is none e = absurd (subst (λ z. Fixed (pick z (some (here_text [])) none)) e tt)
  is_host_paper_is (some (file_read x n)) e = absurd (subst (λ z. Fixed (pick z (some (here_text [])) none)) e tt)
  is_host_paper_is (some (file_append x)) e = absurd (subst (λ z. Fixed (pick z (some (here_text [])) none)) e tt)
  is_host_paper_is (some (pipe_read x)) e = absurd (subst (λ z. Fixed (pick z (some (here_text [])) none)) e tt)
  is_host_paper_is (some (pipe_write x)) e = absurd (subst (λ z. Fixed (pick z (some (here_text [])) none)) e tt)
  is_host_paper_is (some host_input) e = absurd (subst (λ z. Fixed (pick z (some (here_text [])) none)) e tt)
  is_host_paper_is (some host_paper) e = refl
  is_host_paper_is (some (here_text x)) e = absurd (subst (λ z. Fixed (pick z (some (here_text [])) none)) e tt)

  alike_host_input : (p : Option Handle) → Alike i0 o0 p (some host_input) → p ≡ some i0
  alike_host_input none h = absurd h
  alike_host_input (some p) h = ap some h

  alike_host_paper : (p : Option Handle) → Alike i0 o0 p (some host_paper) → p ≡ some o0
  alike_host_paper none h = absurd h
  alike_host_paper (some p) h = ap some h

  data Answer (s : System) (d : ℕ) : Type 0 where
    read1 : {p b : ℕ} {bs : List ℕ} → i0 ≡ pipe_read p → nth s.pipes p ≡ some (b ∷ bs) → read_byte s d ≡ got b (with_pipes s (put s.pipes p bs)) → Answer s d
    none1 : Ended i0 s → read_byte s d ≡ at_end → Answer s d
    wait1 : read_byte s d ≡ must_wait → Answer s d

  answer : (s : System) (d : ℕ) → nth s.handles d ≡ some i0 → InputThere i0 s → s.input ≡ [] → Answer s d
  answer s d e h z = by i0 refl h
    where
      held_by : (p : ℕ) (c : Bool) → i0 ≡ pipe_read p → nth s.pipes p ≡ some [] → held s.handles (writes_pipe p) s.processes ≡ c
          → read_byte s d ≡ pick c must_wait at_end → Answer s d
      held_by p true f g k r = wait1 r
      held_by p false f g k r = none1 (subst (λ o. Ended o s) (sym f) (g, k)) r

      pipe1 : (p : ℕ) (bs : List ℕ) → i0 ≡ pipe_read p → nth s.pipes p ≡ some bs → read_byte s d ≡ read_pipe s p bs → Answer s d
      pipe1 p [] f g r = held_by p (held s.handles (writes_pipe p) s.processes) f g refl r
      pipe1 p (b ∷ bs) f g r = read1 f g r

      by : (o : Handle) → i0 ≡ o → InputThere o s → Answer s d
      by (file_read x n) f k = absurd k
      by (file_append x) f k = absurd k
      by (pipe_read p) f k = pipe1 p k.0 f k.1 (ap (λ q. opt q at_end (read_handle s d)) (e ∙ ap some f) ∙ ap (λ q. opt q at_end (read_pipe s p)) k.1)
      by (pipe_write p) f k = absurd k
      by host_input f k = none1 (subst (λ o. Ended o s) (sym f) tt) (ap (λ q. opt q at_end (read_handle s d)) (e ∙ ap some f) ∙ ap (read_input s) z)
      by host_paper f k = absurd k
      by (here_text bs) f k = absurd k

  data Taken (s : System) (d b : ℕ) : Type 0 where
    paper1 : o0 ≡ host_paper → write_byte s d b ≡ wrote (with_paper s (s.paper ++ (b ∷ []))) → Taken s d b
    pipe2 : {p : ℕ} {bs : List ℕ} → o0 ≡ pipe_write p → nth s.pipes p ≡ some bs → write_byte s d b ≡ wrote (with_pipes s (put s.pipes p (bs ++ (b ∷ [])))) → Taken s d b
    full1 : write_byte s d b ≡ pipe_full → Taken s d b
    dead1 : {p : ℕ} → o0 ≡ pipe_write p → held s.handles (reads_pipe p) s.processes ≡ false → write_byte s d b ≡ no_reader → Taken s d b

  taken : (s : System) (d b : ℕ) → nth s.handles d ≡ some o0 → OutputThere o0 s → Taken s d b
  taken s d b e h = by o0 refl h
    where
      pipe3 : (p : ℕ) (bs : List ℕ) (c r : Bool) → o0 ≡ pipe_write p → nth s.pipes p ≡ some bs
          → held s.handles (reads_pipe p) s.processes ≡ c → write_byte s d b ≡ pick c
          (pick r (wrote (with_pipes s (put s.pipes p (bs ++ (b ∷ []))))) pipe_full) no_reader → Taken s d b
      pipe3 p bs true true f g k r = pipe2 f g r
      pipe3 p bs true false f g k r = full1 r
      pipe3 p bs false c f g k r = dead1 f k r

      by : (o : Handle) → o0 ≡ o → OutputThere o s → Taken s d b
      by (file_read x n) f k = absurd k
      by (file_append x) f k = absurd k
      by (pipe_read p) f k = absurd k
      by (pipe_write p) f k = pipe3 p k.0 (held s.handles (reads_pipe p) s.processes) (ltb (length k.0) 512) f k.1 refl
          (ap (λ q. opt q no_reader (write_handle s b)) (e ∙ ap some f) ∙ ap (λ q. opt q no_reader (write_pipe s p b)) k.1)
      by host_input f k = absurd k
      by host_paper f k = paper1 f (ap (λ q. opt q no_reader (write_handle s b)) (e ∙ ap some f))
      by (here_text bs) f k = absurd k

  q_mid : (s x mid z : System) → mid.handles ≡ s.handles → mid.files ≡ s.files → z.handles ≡ x.handles → z.files ≡ x.files
      → Agrees i0 o0 table s x → Q i0 o0 ki ko table mid mid z
  q_mid s x mid z e f g h t = record {
    agrees = record {
      lengths = t.lengths ∙ ap length (sym g);
      within = λ a i r. subst (λ os. i < length os) (sym e) (t.within a i r);
      once = t.once;
      alike = λ a i r. two i0 o0 ki ko table mid _ _ _ _ (ap (λ os. nth os i) (sym e)) (ap (λ os. nth os a) (sym g)) (t.alike a i r);
      files = f ∙ t.files ∙ sym h;
    };
    preserves = preserves_self table mid;
    level = refl;
  }

  abbrev IoOutside : (mid r x : System) (w : Process) (i o : ℕ) (d e : Control) → LikeControl (ρ i0 o0 ki ko table mid) false d e → Type 0
  IoOutside mid = IoOwnControl i0 o0 ki ko table mid

  read_control : (mid r x z : System) (w v : Process) → nth table v.stdin ≡ some w.stdin
      → (c c' : Control) (l : LikeControl (ρ i0 o0 ki ko table mid) false c c') → BuiltinOf (ρ i0 o0 ki ko table mid) c c' l
      → request x v c' ≡ r_read → (nth table (control_source v c') ≡ some (control_source w c))
      × (is_host_input (nth x.handles (control_source v c')) ≡ true) × (LikeRead (ρ i0 o0 ki ko table mid) (Q i0 o0 ki ko table mid)
      (Q' i0 o0 ki ko table mid) (qf i0 o0 ki ko table mid) (cf i0 o0 ki ko table mid) (oq i0 o0 ki ko table mid) (fr i0 o0 ki ko table mid)
      (up i0 o0 ki ko table mid) r z (read_byte r (control_source w c)) (read_byte z (control_source v c'))
      → IoOutside mid r z w v.stdin v.stdout c c' l) × (read_byte r (control_source w c) ≡ must_wait → step_control r w c ≡ none)
      × Continues (step_control r w c)
  read_control mid r x z w v hi c c' l (builtin_of {u = u} {u' = u'} h) a = let k = read_builtin i0 o0 ki ko table mid r x z w v hi u u' h a in (
    k.0,
    k.1,
    k.2,
    waits_read r x w v u u' _ h a,
    read_continues r x w v u u' _ h a,
  )

  write_control : (mid r x z : System) (w v : Process) (b : ℕ) (c c' : Control) (l : LikeControl (ρ i0 o0 ki ko table mid) false c c')
      → BuiltinOf (ρ i0 o0 ki ko table mid) c c' l → request x v c' ≡ r_write b → (LikeWrite (ρ i0 o0 ki ko table mid) (Q i0 o0 ki ko table mid)
      (Q' i0 o0 ki ko table mid) (qf i0 o0 ki ko table mid) (cf i0 o0 ki ko table mid) (oq i0 o0 ki ko table mid) (fr i0 o0 ki ko table mid)
      (up i0 o0 ki ko table mid) r z (write_byte r w.stdout b) (write_byte z v.stdout b) → IoOutside mid r z w v.stdin v.stdout c c' l)
      × (is_host_paper (nth x.handles v.stdout) ≡ true) × (write_byte r w.stdout b ≡ pipe_full → step_control r w c ≡ none)
      × (write_byte r w.stdout b ≡ no_reader → step_control r w c ≡ some (exits 141 r))
      × ((t : System) → write_byte r w.stdout b ≡ wrote t → Continues (step_control r w c))
  write_control mid r x z w v b c c' l (builtin_of {u = u} {u' = u'} h) a = let k = waits_write r x w v b u u' _ h a in
      (write_builtin i0 o0 ki ko table mid r x z w v b u u' h a, k.0, k.1, k.2, λ t e. write_continues r t x w v b u u' _ h a e)

  -- a local step, seen from the outside
  to_simulated : (s mid : System) (y : Local) (e : Event) (z : System) (o : StepResult) → mid.handles ≡ s.handles → Effect i0 o0 s e mid
      → ((v : Process) (x : System) → step z y.process ≡ some (continues v x) → Fires Local local_step y e (record { system = x; process = v }))
      → Continues (some o) → Collected mid o (step z y.process) → Simulated i0 o0 table s y o
  to_simulated s mid y e z (continues w t) eo x g k c = record {
    event = e;
    target = record { system = c.1; process = c.0 };
    fires = g c.0 c.1 c.2;
    mid = mid;
    effect = x;
    table' = c.3.0;
    simulates = c.3.1;
    preserves = c.3.2;
    grown = subst (λ os. (c.3.0 ≡ table) ⊎ (c.3.0 ≡ table ++ (length os ∷ []))) eo c.3.3;
  }
  to_simulated s mid y e z (exits n t) eo x g k c = absurd k

  own_simulated : (s : System) (y : Local) (o : StepResult) → request y.system y.process y.process.control ≡ r_none
      → Collected s o (step y.system y.process) → Simulated i0 o0 table s y o
  own_simulated s y (continues w t) f c = to_simulated s s y e_silent y.system (continues w t) refl x_silent (λ v x h. ap (respond y) f ∙ ap own_action h) tt c
  own_simulated s y (exits n t) f c = inl (ap (respond y) f ∙ ap own_action c.1, c.2)

  both_none : {A : Type 0} (s : System) (w : Process) (a : StepResult) → step s w ≡ some a → step s w ≡ none → A
  both_none s w a e f = absurd (no_some (sym f ∙ e))

  pub simulate : (s : System) (w : Process) (y : Local) → Simulates i0 o0 table s w y → Sequential w.control → NotCapture w.control
      → s.input ≡ [] → InputThere i0 s → OutputThere o0 s → (a : StepResult) → step s w ≡ some a → Simulated i0 o0 table s y a
  simulate s w y l q ng z hi ho a e = by (request y.system y.process y.process.control) refl
    where
      lw : (mid : System) → LikeProcess (ρ i0 o0 ki ko table mid) false w y.process
      lw mid = as_ρ mid w y.process l.like

      at_read : (request y.system y.process y.process.control ≡ r_read) → Answer s (control_source w w.control) → Simulated i0 o0 table s y a
      at_read f (read1 {p = p} {b = b} {bs = bs} g h r) =
          let mid = with_pipes s (put s.pipes p bs) in
          let z = with_input y.system (b ∷ []) in
          let u = is_builtin (ρ i0 o0 ki ko table mid) y.system y.process w.control y.process.control (lw mid).control ng (λ k. subst IsNone f k) in
          let k = read_control mid s y.system z w y.process (lw mid).stdin w.control y.process.control (lw mid).control u f in
          let pr : read_byte z (control_source y.process y.process.control) ≡ got b (with_input z []) = ap
          (λ (o : Option Handle). opt o at_end (read_handle z (control_source y.process y.process.control)))
          (is_host_input_is (nth y.system.handles (control_source y.process y.process.control)) k.1) in
          let io = k.2 (subst (λ g. LikeRead (ρ i0 o0 ki ko table mid) (Q i0 o0 ki ko table mid) (Q' i0 o0 ki ko table mid)
          (qf i0 o0 ki ko table mid) (cf i0 o0 ki ko table mid) (oq i0 o0 ki ko table mid) (fr i0 o0 ki ko table mid)
          (up i0 o0 ki ko table mid) s z g (read_byte z (control_source y.process y.process.control))) (sym r)
          (subst (λ g. LikeRead (ρ i0 o0 ki ko table mid) (Q i0 o0 ki ko table mid) (Q' i0 o0 ki ko table mid) (qf i0 o0 ki ko table mid)
          (cf i0 o0 ki ko table mid) (oq i0 o0 ki ko table mid) (fr i0 o0 ki ko table mid) (up i0 o0 ki ko table mid) s z (got b mid) g) (sym pr)
          (refl, q_mid s y.system mid (with_input z []) refl refl refl refl l.agrees))) in
          let c = collect mid a (step z y.process) (subst (λ o. LikeOutside mid o (step z y.process)) e (both_step s mid z w y.process (lw mid) q io)) in
          to_simulated s mid y (e_read (some b)) z a refl (x_read g h) (λ v x m. (
            λ r. after_step y
                (step (with_input y.system (as_input r)) y.process),
            ap (respond y) f,
            ap (after_step y) m,
          )) (subst Continues e k.4) c
      at_read f (none1 g r) =
          let z = with_input y.system [] in
          let u = is_builtin (ρ i0 o0 ki ko table s) y.system y.process w.control y.process.control (lw s).control ng (λ k. subst IsNone f k) in
          let k = read_control s s y.system z w y.process (lw s).stdin w.control y.process.control (lw s).control u f in
          let pr : read_byte z (control_source y.process y.process.control) ≡ at_end = ap
          (λ (o : Option Handle). opt o at_end (read_handle z (control_source y.process y.process.control)))
          (is_host_input_is (nth y.system.handles (control_source y.process y.process.control)) k.1) in
          let io = k.2 (subst (λ g. LikeRead (ρ i0 o0 ki ko table s) (Q i0 o0 ki ko table s) (Q' i0 o0 ki ko table s) (qf i0 o0 ki ko table s)
          (cf i0 o0 ki ko table s) (oq i0 o0 ki ko table s) (fr i0 o0 ki ko table s) (up i0 o0 ki ko table s) s z g
          (read_byte z (control_source y.process y.process.control))) (sym r)
          (subst (λ g. LikeRead (ρ i0 o0 ki ko table s) (Q i0 o0 ki ko table s) (Q' i0 o0 ki ko table s) (qf i0 o0 ki ko table s)
          (cf i0 o0 ki ko table s) (oq i0 o0 ki ko table s) (fr i0 o0 ki ko table s) (up i0 o0 ki ko table s) s z at_end g) (sym pr)
          (q_mid s y.system s z refl refl refl refl l.agrees))) in
          let c = collect s a (step z y.process) (subst (λ o. LikeOutside s o (step z y.process)) e (both_step s s z w y.process (lw s) q io)) in
          to_simulated s s y (e_read none) z a refl (x_end g) (λ v x m. (
            λ r. after_step y (step (with_input y.system (as_input r)) y.process),
            ap (respond y) f,
            ap (after_step y) m,
          )) (subst Continues e k.4) c
      at_read f (wait1 r) =
          let u = is_builtin (ρ i0 o0 ki ko table s) y.system y.process w.control y.process.control (lw s).control ng (λ k. subst IsNone f k) in
          both_none s w a e ((read_control s s y.system s w y.process (lw s).stdin w.control y.process.control (lw s).control u f).3 r)

      wrote_did : (b : ℕ) (mid : System) → request y.system y.process y.process.control ≡ r_write b → mid.handles ≡ s.handles
          → mid.files ≡ s.files → Effect i0 o0 s (e_write b) mid → write_byte s w.stdout b ≡ wrote mid → Simulated i0 o0 table s y a
      wrote_did b mid f eo ef x r =
          let u = is_builtin (ρ i0 o0 ki ko table mid) y.system y.process w.control y.process.control (lw mid).control ng (λ k. subst IsNone f k) in
          let k = write_control mid s y.system y.system w y.process b w.control y.process.control (lw mid).control u f in
          let z = with_paper y.system (y.system.paper ++ (b ∷ [])) in
          let pr : write_byte y.system y.process.stdout b ≡ wrote z = ap (λ (o : Option Handle). opt o no_reader (write_handle y.system b))
          (is_host_paper_is (nth y.system.handles y.process.stdout) k.1) in
          let io = k.0 (subst (λ g. LikeWrite (ρ i0 o0 ki ko table mid) (Q i0 o0 ki ko table mid) (Q' i0 o0 ki ko table mid)
          (qf i0 o0 ki ko table mid) (cf i0 o0 ki ko table mid) (oq i0 o0 ki ko table mid) (fr i0 o0 ki ko table mid) (up i0 o0 ki ko table mid) s
          y.system g (write_byte y.system y.process.stdout b)) (sym r)
          (subst (λ g. LikeWrite (ρ i0 o0 ki ko table mid) (Q i0 o0 ki ko table mid) (Q' i0 o0 ki ko table mid) (qf i0 o0 ki ko table mid)
          (cf i0 o0 ki ko table mid) (oq i0 o0 ki ko table mid) (fr i0 o0 ki ko table mid) (up i0 o0 ki ko table mid) s y.system (wrote mid) g)
          (sym pr) (q_mid s y.system mid z eo ef refl refl l.agrees))) in
          let c = collect mid a (step y.system y.process) (subst (λ o. LikeOutside mid o (step y.system y.process)) e
          (both_step s mid y.system w y.process (lw mid) q io)) in
          to_simulated s mid y (e_write b) y.system a eo x (λ v x m. ap (respond y) f ∙ ap (λ o. writing b (after_step y o)) m) (subst Continues e (k.4 mid r)) c

      at_write : (b : ℕ) → request y.system y.process y.process.control ≡ r_write b → Taken s w.stdout b → Simulated i0 o0 table s y a
      at_write b f (paper1 g r) = wrote_did b _ f refl refl (x_paper g) r
      at_write b f (pipe2 g h r) = wrote_did b _ f refl refl (x_pipe g h) r
      at_write b f (full1 r) =
          let u = is_builtin (ρ i0 o0 ki ko table s) y.system y.process w.control y.process.control (lw s).control ng (λ k. subst IsNone f k) in
          both_none s w a e ((write_control s s y.system s w y.process b w.control y.process.control (lw s).control u f).2 r)
      at_write b f (dead1 {p = p} g h r) =
          let u = is_builtin (ρ i0 o0 ki ko table s) y.system y.process w.control y.process.control (lw s).control ng (λ k. subst IsNone f k) in
          let k = (write_control s s y.system s w y.process b w.control y.process.control (lw s).control u f).3 r in
          subst (λ o. Simulated i0 o0 table s y o) (inside (sym k ∙ e)) (inr (refl, refl, (p, g, h)))

      by : (k : Request) → request y.system y.process y.process.control ≡ k → Simulated i0 o0 table s y a
      by r_none f = own_simulated s y a f (collect s a (step y.system y.process)
          (subst (λ o. LikeOutside s o (step y.system y.process)) e (both_step s s y.system w y.process (lw s) q
          (own_control i0 o0 ki ko table s y.system (q_mid s y.system s y.system refl refl refl refl l.agrees) w y.process
          (lw s).stdin (lw s).stdout w.control y.process.control (lw s).control f))))
      by r_read f =
          let u = is_builtin (ρ i0 o0 ki ko table s) y.system y.process w.control y.process.control (lw s).control ng (λ k. subst IsNone f k) in
          let k = read_control s s y.system s w y.process (lw s).stdin w.control y.process.control (lw s).control u f in
          at_read f (answer s (control_source w w.control) (alike_host_input _ (two i0 o0 ki ko table s _ _ _ _ refl
          (is_host_input_is (nth y.system.handles (control_source y.process y.process.control)) k.1)
          (l.agrees.alike _ _ k.0))) hi z)
      by (r_write b) f =
          let u = is_builtin (ρ i0 o0 ki ko table s) y.system y.process w.control y.process.control (lw s).control ng (λ k. subst IsNone f k) in
          let k = write_control s s y.system s w y.process b w.control y.process.control (lw s).control u f in
          at_write b f (taken s w.stdout b (alike_host_paper _ (two i0 o0 ki ko table s _ _ _ _ refl
          (is_host_paper_is (nth y.system.handles y.process.stdout) k.1) (l.agrees.alike _ _ (lw s).stdout))) ho)
