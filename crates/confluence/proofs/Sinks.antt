-- Where the output of a process goes: to the paper, or into a pipe from which a process captures. What it has received is
-- what was captured, followed by what is still in the pipe.
use mathlib.Core.Path.{◌∙◌, ◌≡◌, ap, refl, subst, sym}
use mathlib.Core.Bool.{◌||◌, Bool, false, true}
use mathlib.Core.List.{[], ◌++◌, ◌∷◌, List}
use mathlib.Core.Option.{none, Option, some}
use Prim.Native.Nat.{◌+◌, ◌<◌, ◌≤◌, ℕ}
use native.Mathlib.Omega.{arith}
use lib.ListN.{length}
use Rattle.syntax.specs.Base.{nth, opt, put}
use Rattle.meaning.specs.System.{at_and_or, at_builtin, at_capture, at_command, at_list, at_pipeline, at_redirects, at_status, at_unwind, at_wait, at_words, Control, Expansion, find_process, Handle, handle_is, held, host_paper, in_control, in_frames, pipe_read, pipe_write, Process, Purpose, reads_pipe, System, writes_pipe}
use Rattle.confluence.proofs.Basics.{app_assoc, eqb_self, nth_lt, or_right, put_other, put_same}
use Rattle.confluence.proofs.Chain.{e_read, e_silent, e_write, Event, outputs}
use Rattle.confluence.proofs.Local.{Fixed, OutputHandle}
use Rattle.confluence.proofs.Simulation.{Effect, OutputThere, x_end, x_paper, x_pipe, x_read, x_silent}
use Rattle.confluence.proofs.Holding.{held_by}
use Rattle.confluence.proofs.Buffers.{IsPipe, outputs_snoc, pipe_number, same_outputs}

-- the paper; or a pipe and the process that captures from it
pub data Sink : Type 0 where
  on_paper : Sink
  on_pipe : ℕ → ℕ → Sink

abbrev pub sink_handle : Sink → Handle
sink_handle on_paper = host_paper
sink_handle (on_pipe p g) = pipe_write p

abbrev pub captured : Control → List ℕ
captured (at_list l) = []
captured (at_and_or a) = []
captured (at_pipeline n p) = []
captured (at_command c) = []
captured (at_words x y) = []
captured (at_redirects ts t) = []
captured (at_builtin u) = []
captured (at_status n) = []
captured (at_unwind t n) = []
captured (at_wait ps) = []
captured (at_capture d bs q x y) = bs

abbrev pub captured_by : Option Process → List ℕ
captured_by none = []
captured_by (some w) = captured w.control

abbrev pub pipe_bytes : Option (List ℕ) → List ℕ
pipe_bytes none = []
pipe_bytes (some bs) = bs

abbrev pub received : Sink → System → List ℕ
received on_paper s = s.paper
received (on_pipe p g) s = captured_by (find_process s.processes g) ++ pipe_bytes (nth s.pipes p)

abbrev pub SameSink : Sink → System → System → Type 0
SameSink on_paper s t = t.paper ≡ s.paper
SameSink (on_pipe p g) s t = (find_process t.processes g ≡ find_process s.processes g) × (nth t.pipes p ≡ nth s.pipes p)

pub received_same : (k : Sink) (s t : System) → SameSink k s t → received k t ≡ received k s
received_same on_paper s t h = h
received_same (on_pipe p g) s t h = λ i. captured_by (h.0 i) ++ pipe_bytes (h.1 i)

-- the process that captures is there and holds its end
abbrev pub SinkAlive : Sink → System → Type 0
SinkAlive on_paper s = Unit {0}
SinkAlive (on_pipe p g) s = (w : Process) × (find_process s.processes g ≡ some w)
    × ((d : ℕ) × (bs : List ℕ) × (q : Bool) × (x : Expansion) × (y : Purpose) × (w.control ≡ at_capture d bs q x y)
    × (nth s.handles d ≡ some (pipe_read p))) × ((cs : List ℕ) × (nth s.pipes p ≡ some cs))

abbrev pub Below : Sink → ℕ → Type 0
Below on_paper n = Unit {0}
Below (on_pipe p g) n = g < n

abbrev pub NotSink : Sink → ℕ → Type 0
NotSink on_paper q = Unit {0}
NotSink (on_pipe p g) q = p ≡ q → ⊥

pub sink_is_read : (p g : ℕ) (s : System) → SinkAlive (on_pipe p g) s → held s.handles (reads_pipe p) s.processes ≡ true
sink_is_read p g s k = let z = k.2 in held_by s.processes g k.0 s.handles (reads_pipe p) k.1
    (or_right (handle_is s.handles (reads_pipe p) k.0.stdin || handle_is s.handles (reads_pipe p) k.0.stdout) _
    (or_right (in_frames s.handles (reads_pipe p) k.0.frames) _ (ap (in_control s.handles (reads_pipe p)) z.5
    ∙ ap (λ o. opt o false (reads_pipe p)) z.6 ∙ eqb_self p)))

pub received_after : (k : Sink) (i : Handle) (s mid : System) (e : Event) (es : List Event) (p0 : List ℕ) → Effect i (sink_handle k) s e mid
    → ((p : ℕ) → i ≡ pipe_read p → NotSink k p) → received k s ≡ p0 ++ outputs es → received k mid ≡ p0 ++ outputs (es ++ (e ∷ []))
received_after k i s mid e es p0 x_silent n t = t ∙ ap (λ z. p0 ++ z) (sym (same_outputs es e_silent refl))
received_after on_paper i s mid e es p0 (x_read {b = b} g h) n t = t ∙ ap (λ z. p0 ++ z) (sym (same_outputs es (e_read (some b)) refl))
received_after (on_pipe p q) i s mid e es p0 (x_read {p = r} {b = b} {bs = bs} g h) n t = ap
    (λ z. captured_by (find_process s.processes q) ++ pipe_bytes z) (put_other s.pipes r p bs (λ z. n r g (sym z))) ∙ t
    ∙ ap (λ z. p0 ++ z) (sym (same_outputs es (e_read (some b)) refl))
received_after k i s mid e es p0 (x_end h) n t = t ∙ ap (λ z. p0 ++ z) (sym (same_outputs es (e_read none) refl))
received_after on_paper i s mid e es p0 (x_paper {b = b} h) n t = ap (λ z. z ++ (b ∷ [])) t ∙ app_assoc p0 (outputs es) (b ∷ [])
    ∙ ap (λ z. p0 ++ z) (sym (outputs_snoc es (e_write b)))
received_after (on_pipe p q) i s mid e es p0 (x_paper h) n t = absurd (subst IsPipe h tt)
received_after on_paper i s mid e es p0 (x_pipe g h) n t = absurd (subst IsPipe (sym g) tt)
received_after (on_pipe p q) i s mid e es p0 (x_pipe {p = r} {b = b} {bs = bs} g h) n t =
    let m : p ≡ r = ap pipe_number g in
    let w = captured_by (find_process s.processes q) in
    let a : nth (put s.pipes r (bs ++ (b ∷ []))) p ≡ some (bs ++ (b ∷ [])) = ap (λ z. nth (put s.pipes r (bs ++ (b ∷ []))) z) m
    ∙ put_same s.pipes r (bs ++ (b ∷ [])) (nth_lt s.pipes r bs h) in
    ap (λ z. w ++ pipe_bytes z) a ∙ sym (app_assoc w bs (b ∷ [])) ∙ ap (λ z. (w ++ pipe_bytes z) ++ (b ∷ [])) (sym (ap (λ z. nth s.pipes z) m ∙ h))
    ∙ ap (λ z. z ++ (b ∷ [])) t ∙ app_assoc p0 (outputs es) (b ∷ []) ∙ ap (λ z. p0 ++ z) (sym (outputs_snoc es (e_write b)))

pub sink_output : (k : Sink) → OutputHandle (sink_handle k)
sink_output on_paper = tt
sink_output (on_pipe p g) = tt

pub sink_there : (k : Sink) (s : System) → SinkAlive k s → OutputThere (sink_handle k) s
sink_there on_paper s h = tt
sink_there (on_pipe p g) s h = h.3

-- the sink is as it was, or has received one byte more
pub sink_alive_after : (k : Sink) (n : ℕ) (s t : System) → Below k n → ((q : ℕ) → q < n
    → find_process t.processes q ≡ find_process s.processes q) → ((i p : ℕ) → nth s.handles i ≡ some (pipe_read p)
    → nth t.handles i ≡ some (pipe_read p)) → ((p g : ℕ) → k ≡ on_pipe p g → (cs : List ℕ) × (nth t.pipes p ≡ some cs)) → SinkAlive k s
    → SinkAlive k t
sink_alive_after on_paper n s t b f o c h = tt
sink_alive_after (on_pipe p g) n s t b f o c h = (h.0, f g b ∙ h.1, (h.2.0, h.2.1, h.2.2, h.2.3, h.2.4, h.2.5, o h.2.0 p h.2.6), c p g refl)

pub sink_pipe : (k : Sink) (s : System) (p g : ℕ) → k ≡ on_pipe p g → SinkAlive k s → (cs : List ℕ) × (nth s.pipes p ≡ some cs)
sink_pipe k s p g e h = (subst (λ z. SinkAlive z s) e h).3

pub received_kept : (k : Sink) (s t : System) (n : ℕ) → Below k n → ((q : ℕ) → q < n → find_process t.processes q ≡ find_process s.processes q)
    → t.paper ≡ s.paper → ((p g : ℕ) → k ≡ on_pipe p g → nth t.pipes p ≡ nth s.pipes p) → received k t ≡ received k s
received_kept on_paper s t n b f a c = a
received_kept (on_pipe p g) s t n b f a c = received_same (on_pipe p g) s t (f g b, c p g refl)

pub sink_fixed : (k : Sink) → Fixed (some (sink_handle k))
sink_fixed on_paper = tt
sink_fixed (on_pipe p g) = tt

pub sink_not_new : (k : Sink) (s : System) (j : ℕ) → SinkAlive k s → NotSink k (length s.pipes + j)
sink_not_new on_paper s j h = tt
sink_not_new (on_pipe p g) s j h = λ e. absurd (omega (arith, e, nth_lt s.pipes p h.3.0 h.3.1))

pub below_later : (k : Sink) (r n : ℕ) → r < n → Below k r → Below k n
below_later on_paper r n h b = tt
below_later (on_pipe p g) r n h b = omega (arith, h, b)

abbrev pub SinkBefore : Sink → ℕ → Type 0
SinkBefore on_paper m = Unit {0}
SinkBefore (on_pipe p g) m = p < m

abbrev pub BeforeSink : Sink → ℕ → Type 0
BeforeSink on_paper q = ⊥
BeforeSink (on_pipe p g) q = q < p

pub sink_alive_same : (k : Sink) (s t : System) → SameSink k s t → ((i p : ℕ) → nth s.handles i ≡ some (pipe_read p)
    → nth t.handles i ≡ some (pipe_read p)) → SinkAlive k s → SinkAlive k t
sink_alive_same on_paper s t h o z = tt
sink_alive_same (on_pipe p g) s t h o z = (z.0, h.0 ∙ z.1, (z.2.0, z.2.1, z.2.2, z.2.3, z.2.4, z.2.5, o z.2.0 p z.2.6), (z.3.0, h.1 ∙ z.3.1))

abbrev pub SinkWritten : Sink → System → Type 0
SinkWritten on_paper s = Unit {0}
SinkWritten (on_pipe p g) s = held s.handles (writes_pipe p) s.processes ≡ true

abbrev pub UpToSink : Sink → ℕ → Type 0
UpToSink on_paper q = ⊥
UpToSink (on_pipe p g) q = q ≤ p

pub sink_before_new : (k : Sink) (s : System) → SinkAlive k s → SinkBefore k (length s.pipes)
sink_before_new on_paper s h = tt
sink_before_new (on_pipe p g) s h = nth_lt s.pipes p h.3.0 h.3.1

pub before_sink_old : (k : Sink) (s : System) (q : ℕ) → SinkAlive k s → BeforeSink k q → q < length s.pipes
before_sink_old on_paper s q h u = absurd u
before_sink_old (on_pipe p g) s q h u = omega (arith, u, nth_lt s.pipes p h.3.0 h.3.1)

pub before_sink_not : (k : Sink) (q : ℕ) → BeforeSink k q → NotSink k q
before_sink_not on_paper q u = absurd u
before_sink_not (on_pipe p g) q u = λ e. absurd (omega (arith, e, u))

pub up_to_before : (k : Sink) (p q : ℕ) → SinkBefore k q → UpToSink k p → p < q
up_to_before on_paper p q a u = absurd u
up_to_before (on_pipe x g) p q a u = omega (arith, a, u)

pub before_before : (k : Sink) (p q : ℕ) → SinkBefore k q → BeforeSink k p → p < q
before_before on_paper p q a u = absurd u
before_before (on_pipe x g) p q a u = omega (arith, a, u)
