-- What stands in the words of a cell.
use Rattle.std.specs.Prelude.{◌≡◌, ℕ, ◌+◌, Bool, not, List, take, drop, slice_index, ◌==◌}
use Rattle.syntax.specs.Base.{pick}
use Rattle.code.specs.Tags.{redirect_number}
use Rattle.code.specs.declared.cells.Command.{Command}
use Rattle.code.specs.declared.cells.Command.TheVariants.{Simple, Group, Subshell, If, While, For, Case, Function}
use Rattle.code.specs.declared.cells.Part.{Part}
use Rattle.code.specs.declared.cells.Part.TheVariants.{Literal, Parameter, Substitution}
use Rattle.code.specs.declared.cells.Item.{Item}
use Rattle.code.specs.declared.cells.AndOr.{AndOr}
use Rattle.code.specs.declared.cells.Assignment.{Assignment}
use Rattle.code.specs.declared.cells.Redirect.{Redirect}
use Rattle.code.specs.declared.cells.Arm.{Arm}

-- whether a word says yes
abbrev pub said : ℕ → Bool
said n = not (n == 0)

-- a command of a list: the next, whether & stands behind it, the last of its chain of && and ||
abbrev pub item_at : List ℕ → ℕ → Item
item_at words a = record { next = slice_index words a; background = said (slice_index words (a + 1)); and_or = slice_index words (a + 2) }

-- a pipeline of such a chain: the one before, whether && stands between them, whether ! stands before it, its command
abbrev pub and_or_at : List ℕ → ℕ → AndOr
and_or_at words a = record { before = slice_index words a; and = said (slice_index words (a + 1)); not = said (slice_index words (a + 2)); pipeline = slice_index words (a + 3) }

abbrev pub arm_at : List ℕ → ℕ → Arm
arm_at words a = record { pattern = slice_index words (a + 1); list = slice_index words (a + 2) }

abbrev pub RedirectIs : List ℕ → ℕ → Redirect → Type 0
RedirectIs words a r = (slice_index words (a + 1) ≡ redirect_number r.tag) × (r.word ≡ slice_index words (a + 2))

module _ (text words : List ℕ) where
  -- the bytes whose start stands at a, and their number behind it
  abbrev pub bytes_at : ℕ → List ℕ
  bytes_at a = take (slice_index words (a + 1)) (drop (slice_index words a) text)

  abbrev pub AssignmentIs : ℕ → Assignment → Type 0
  AssignmentIs a s = (s.name.now ≡ bytes_at (a + 1)) × (s.value ≡ slice_index words (a + 3))

  abbrev pub CommandIs : ℕ → Command → Type 0
  CommandIs a (Simple s w r) = (slice_index words (a + 1) ≡ 0) × (s ≡ slice_index words (a + 2)) × (w ≡ slice_index words (a + 3)) × (r ≡ slice_index words (a + 4))
  CommandIs a (Group l r) = (slice_index words (a + 1) ≡ 1) × (l ≡ slice_index words (a + 2)) × (r ≡ slice_index words (a + 3))
  CommandIs a (Subshell l r) = (slice_index words (a + 1) ≡ 2) × (l ≡ slice_index words (a + 2)) × (r ≡ slice_index words (a + 3))
  CommandIs a (If b c e r) = (slice_index words (a + 1) ≡ 3) × (b ≡ slice_index words (a + 2)) × (c ≡ slice_index words (a + 3)) × (e ≡ slice_index words (a + 4)) × (r ≡ slice_index words (a + 5))
  CommandIs a (While b c r) = (slice_index words (a + 1) ≡ 4) × (b ≡ slice_index words (a + 2)) × (c ≡ slice_index words (a + 3)) × (r ≡ slice_index words (a + 4))
  CommandIs a (For x w l r) = (slice_index words (a + 1) ≡ 5) × (x.now ≡ bytes_at (a + 2)) × (w ≡ slice_index words (a + 4)) × (l ≡ slice_index words (a + 5)) × (r ≡ slice_index words (a + 6))
  CommandIs a (Case w i r) = (slice_index words (a + 1) ≡ 6) × (w ≡ slice_index words (a + 2)) × (i ≡ slice_index words (a + 3)) × (r ≡ slice_index words (a + 4))
  CommandIs a (Function x l) = (slice_index words (a + 1) ≡ 7) × (x.now ≡ bytes_at (a + 2)) × (l ≡ slice_index words (a + 4))

  abbrev pub PartIs : ℕ → Part → Type 0
  PartIs a (Literal q s) = (slice_index words (a + 1) ≡ pick q 1 0) × (s.now ≡ bytes_at (a + 2))
  PartIs a (Parameter q x) = (slice_index words (a + 1) ≡ 2 + pick q 1 0) × (x.now ≡ bytes_at (a + 2))
  PartIs a (Substitution q l) = (slice_index words (a + 1) ≡ 4 + pick q 1 0) × (l ≡ slice_index words (a + 2))
