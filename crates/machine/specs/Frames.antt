-- Frames, as words at the end of a list.
use Rattle.std.specs.Prelude.{◌≡◌, ℕ, ◌-◌, List, [], ◌∷◌, ◌++◌, length, take, Some, None, Option, Result, MatchResult, ◌==◌, nat_lt, slice_index}
use Rattle.syntax.specs.Base.{pick}
use Rattle.machine.specs.declared.frames.UnknownTag.{UnknownTag}
use Rattle.machine.specs.declared.frames.Frame.{Frame}
use Rattle.machine.specs.declared.frames.Frame.TheVariants.{List as List', Handles, AndOr, Not, If, Condition, Body}

-- the three words of a frame, the last its tag
abbrev pub words_of : Frame → List ℕ
words_of (List' x) = x ∷ 0 ∷ 1 ∷ []
words_of (Handles i o) = i ∷ o ∷ 2 ∷ []
words_of (AndOr x) = x ∷ 0 ∷ 3 ∷ []
words_of Not = 0 ∷ 0 ∷ 4 ∷ []
words_of (If x) = x ∷ 0 ∷ 5 ∷ []
words_of (Condition x) = x ∷ 0 ∷ 6 ∷ []
words_of (Body x) = x ∷ 0 ∷ 7 ∷ []

-- the frame that three words are
abbrev pub frame_of : ℕ → ℕ → ℕ → Option Frame
frame_of x y t =
    pick (t == 1) (Some (List' x))
    (pick (t == 2) (Some (Handles x y))
    (pick (t == 3) (Some (AndOr x))
    (pick (t == 4) (Some Not)
    (pick (t == 5) (Some (If x))
    (pick (t == 6) (Some (Condition x))
    (pick (t == 7) (Some (Body x))
    None))))))

-- the result is the frame that these words are, or an error where they are none
abbrev pub Decodes : List ℕ → Result Frame UnknownTag → Type 0
Decodes ws r = MatchResult r
    (λ f. frame_of (slice_index ws 0) (slice_index ws 1) (slice_index ws 2) ≡ Some f)
    (λ e. (e.0 ≡ slice_index ws 2) × (frame_of (slice_index ws 0) (slice_index ws 1) (slice_index ws 2) ≡ None))

-- a frame more, or none
abbrev pub framed : Option Frame → List ℕ
framed None = []
framed (Some f) = words_of f

-- the last frame
abbrev pub top_frame : List ℕ → Option Frame
top_frame F = pick (nat_lt (length F) 3) None (frame_of (slice_index F (length F - 3)) (slice_index F (length F - 2)) (slice_index F (length F - 1)))

-- the last frame goes, or another one takes its place
abbrev pub settled : List ℕ → Option Frame → List ℕ
settled F q = take (length F - 3) F ++ framed q
