-- A text that is put on a page, where the next text goes.
use Rattle.std.specs.Prelude.{◌≡◌, ℕ, ◌+◌, ◌≤◌, List, length}
use Rattle.util.specs.Puts.{Puts}
use Rattle.text.specs.declared.Page.{Page}

-- whether there is room for n bytes more
abbrev pub HasRoom : Page → ℕ → Type 0
HasRoom p n = p.at + n ≤ length p.out.now

-- the page before and after: the same lent bytes, with the text from the one place to the other
pub record Prints (before : Page) (text : List ℕ) (after : Page) : Type 0 where
  pub same_reference : after.out.ghost_name ≡ before.out.ghost_name
  pub kept_length : length after.out.now ≡ length before.out.now
  pub puts : Puts before.out.now before.at text after.at after.out.now
