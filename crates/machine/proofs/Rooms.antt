-- How many words a process has in its lists.
use Rattle.std.proofs.Common.{◌≡◌, ℕ, suc, ◌+◌, ◌≤◌, List, [], ◌∷◌, ◌++◌, length, refl, ap, arith}
use mathlib.Core.Option.{Option, some, none}
use Rattle.std.proofs.lemmas.List.{length-append}
use Rattle.syntax.specs.Base.{opt}
use Rattle.meaning.specs.System.{QuotedByte, Builtin, Control, Frame, f_list, f_and_or, f_not, f_if, f_condition, f_body, f_for, f_handles, f_arguments}
use Rattle.meaning.specs.Words.{bytes_of, close_word}
use Rattle.meaning.specs.Space.{words_size, builtin_size, control_size, frames_size}
use Rattle.machine.specs.declared.process.Builtin.{Builtin as Builtin'}
use Rattle.machine.specs.declared.process.Control.{Control as Control'}
use Rattle.words.specs.Encoding.{encoded, marked, plain}
use Rattle.machine.specs.Represent.{BuiltinRep, r_done, r_seq, r_yes, ControlRep, r_list, r_and_or, r_pipeline, r_command, r_words, r_invoke, r_print, r_builtin, r_status, r_unwind, FramesRep}
use Rattle.machine.specs.Room.{OwnRoom, RefusalBound}
use Rattle.words.proofs.Texts.{rev_length, encoded_length}

bytes_length : (d : List QuotedByte) → length (bytes_of d) ≡ length d
bytes_length [] = refl
bytes_length (c ∷ d) = ap suc (bytes_length d)

marked_room : (ds : List (List QuotedByte)) → length (marked ds) ≤ words_size ds
marked_room [] = omega arith
marked_room (d ∷ ds) = omega (arith, length-append (encoded d) (marked ds), encoded_length d, marked_room ds)

plain_room : (ds : List (List QuotedByte)) → words_size ds ≡ words_size (plain ds)
plain_room [] = refl
plain_room (d ∷ ds) = omega (arith, bytes_length d, plain_room ds)

size_push : (ds : List (List QuotedByte)) (f : List QuotedByte) → words_size (ds ++ (f ∷ [])) ≡ words_size ds + (4 + length f)
size_push [] f = omega arith
size_push (d ∷ ds) f = omega (arith, size_push ds f)

words_room : (o : Option (List QuotedByte)) (ds : List (List QuotedByte)) → length (marked (close_word o ds)) ≤ 8 + (opt o 0 length + words_size ds)
words_room none ds = omega (arith, marked_room ds)
words_room (some f) ds = omega (arith, marked_room (ds ++ (f ∷ [])), size_push ds f)

builtin_room : {L : List ℕ} {v : Builtin'} {u : Builtin} → BuiltinRep L v u → length L ≤ builtin_size u
builtin_room (r_done l z) = omega (arith, ap length l)
builtin_room (r_seq l z) = omega (arith, ap length l)
builtin_room (r_yes b l z) = omega (arith, ap length l, rev_length b)

control_room : {text code W T L : List ℕ} {d : Control'} {c : Control} → ControlRep text code W T L d c → length W + (length T + length L) ≤ control_size c
control_room (r_list p q u e) = omega (arith, ap length p, ap length q, ap length u)
control_room (r_and_or p q u e) = omega (arith, ap length p, ap length q, ap length u)
control_room (r_pipeline p q u e) = omega (arith, ap length p, ap length q, ap length u)
control_room (r_command p q u e) = omega (arith, ap length p, ap length q, ap length u)
control_room (r_words {o = o} {ds = ds} p q u i t e f) = omega (arith, ap length p, ap length q, ap length u, words_room o ds)
control_room (r_invoke ds p q u t) = omega (arith, ap length p, ap length q, ap length u, marked_room ds, plain_room ds)
control_room (r_print bs p q t u) = omega (arith, ap length p, ap length q, rev_length bs, builtin_room u)
control_room (r_builtin p q u) = omega (arith, ap length p, ap length q, builtin_room u)
control_room (r_status p q u e) = omega (arith, ap length p, ap length q, ap length u)
control_room (r_unwind p q u e) = omega (arith, ap length p, ap length q, ap length u)

-- each frame takes more than its three words
frame_room : (κ : Frame) (k : List Frame) → 3 + frames_size k ≤ frames_size (κ ∷ k)
frame_room (f_list l) k = omega arith
frame_room (f_handles i o) k = omega arith
frame_room (f_and_or a n p) k = omega arith
frame_room f_not k = omega arith
frame_room (f_if a b) k = omega arith
frame_room (f_condition a b) k = omega arith
frame_room (f_body a b) k = omega arith
frame_room (f_for z as₁ l) k = omega arith
frame_room (f_arguments as₁) k = omega arith

frames_room : (text code : List ℕ) (number : ℕ → ℕ) (F : List ℕ) (k : List Frame) → FramesRep text code number F k → length F ≤ frames_size k
frames_room text code number F [] h = omega (arith, ap length h)
frames_room text code number F (κ ∷ k) (G, x, y, t, f, e, d, i, h) = omega (arith, ap length e, length-append G (x ∷ y ∷ t ∷ []), frame_room κ k, frames_room text code number G k h)

pub own_room : OwnRoom
own_room text code number live m p r c k h = omega (arith, ap length h.has.frames, ap length h.has.words, ap length h.has.text, ap length h.has.line, control_room h.control, frames_room text code number h.lists.frames k h.frames)

pub refusal_bound : RefusalBound
refusal_bound all n live h = omega (arith, h)
