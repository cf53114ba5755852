-- What is computed of the constructs on the way to the masks of nodes: what a node in each construct holds, and the constructs of one kind.
-- Assumes nothing.
use Rattle.std.specs.Prelude.{◌≡◌, ◌⊎◌, Bool, ◌&&◌, ◌||◌, not, cond, List, [], ◌∷◌, ℕ, ◌^◌, ◌<◌, eqb, leb, length, get_or}
use Rattle.lists.specs.Mask.{Mask, mask_of}
use Rattle.lists.specs.Bits.{has}
use Rattle.chart.specs.Format.{outside, Construct, construct_at}
use Rattle.chart.specs.Region.{Kind, single, master, critical, loop, ordered, sections, section, parallel, Region}
use Rattle.chart.specs.Scope.{single_byte, master_byte, loop_byte, ordered_byte, section_byte, parallel_byte, Encloses}
use Rattle.theory_answers.specs.Unexcluded.{Returns}

-- What makes a node inside construct c hold construct d, by the kind of c.
abbrev pub Gives : Region → ℕ → ℕ → Kind → Type 0
Gives R c d single = (d ≡ c) × (Returns R d → ⊥)
Gives R c d master = (R.kind d ≡ master) × (R.thread c ≡ R.thread d)
Gives R c d critical = ⊥
Gives R c d loop = ⊥
Gives R c d ordered = (d ≡ R.parent c) × (Returns R d → ⊥)
Gives R c d sections = ⊥
Gives R c d section = (d ≡ c) × (Returns R (R.parent d) → ⊥)
Gives R c d parallel = ⊥

-- A node that lies in p holds d: so a construct of the region gives it, which is p or stands above p.
abbrev pub HeldIn : Region → (ℕ → Type 0) → ℕ → ℕ → Type 0
HeldIn R Counts p d = (c : ℕ) × (Encloses R.parent p c × (Counts c × Gives R c d (R.kind c)))

-- The masks of these, for each construct below `done`.
pub record Chains (R : Region) (Counts : ℕ → Type 0) (done : ℕ) (held : List ℕ) : Type 0 where
  pub long : length held ≡ 48
  pub is_held : (c : ℕ) → c < done → Mask (HeldIn R Counts c) R.constructs (get_or held c 0)

-- The mask of the construct p; none where p is outside.
unfoldable pub mask_at : List ℕ → ℕ → ℕ
mask_at masks p = cond (eqb p outside) 0 (get_or masks p 0)

-- Bit c, where construct d is not one of those that return.
unfoldable pub lasting_bit : ℕ → ℕ → ℕ → ℕ
lasting_bit returning d c = cond (has returning d) 0 (2 ^ c)

-- What construct c gives, by its kind and parent, the masters for its thread, and the constructs that return.
unfoldable pub own_mask : ℕ → ℕ → ℕ → ℕ → ℕ → ℕ
own_mask kind parent c returning masters =
    cond (eqb kind master_byte) masters
    (cond (eqb kind single_byte) (lasting_bit returning c c)
    (cond (eqb kind ordered_byte) (lasting_bit returning parent parent) (cond (eqb kind section_byte) (lasting_bit returning parent c) 0)))

-- A construct of this kind and parent is one of the region p, of whose constructs of lower numbers the mask tells.
unfoldable pub is_member : ℕ → ℕ → ℕ → ℕ → Bool
is_member kind parent p members = not (eqb kind parallel_byte) && (eqb parent p || (not (eqb parent outside) && has members parent))

-- The byte of the kind that the k-th rule from rule 2 on asks for.
abbrev pub rule_byte : ℕ → ℕ
rule_byte k = get_or (master_byte ∷ single_byte ∷ loop_byte ∷ section_byte ∷ []) k 0

-- Construct c is of this kind.
unfoldable pub is_of : List Construct → ℕ → ℕ → Bool
is_of constructs kind c = eqb (construct_at constructs c).kind kind

-- Construct d is of this kind, with this name and this filter.
unfoldable pub is_like : List Construct → ℕ → ℕ → ℕ → ℕ → Bool
is_like constructs kind name filter d =
    let k = construct_at constructs d in
    eqb k.kind kind && (eqb k.name name && eqb k.filter filter)

-- Construct c is a master for a thread that a team of m lacks.
unfoldable pub is_over : List Construct → ℕ → ℕ → Bool
is_over constructs m c = let k = construct_at constructs c in eqb k.kind master_byte && leb m k.filter

-- The constructs like construct c: of its kind, with its name and its filter.
abbrev pub like_mask : List Construct → ℕ → ℕ
like_mask constructs c = let k = construct_at constructs c in mask_of (is_like constructs k.kind k.name k.filter) (length constructs)

-- For each construct those like it, or 0 where nobody has asked yet.
pub record Known (constructs : List Construct) (known : List ℕ) : Type 0 where
  pub long : length known ≡ 64
  pub at : (c : ℕ) → c < length constructs → (get_or known c 0 ≡ 0) ⊎ (get_or known c 0 ≡ like_mask constructs c)
