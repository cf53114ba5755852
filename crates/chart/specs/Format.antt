-- The bytes of a chart, of edition 1 (01: "Bytes of a chart") and of edition 2 (02, Note 5), and their decoding to one record. The decoding is
-- total: it reads any bytes, and whether they make a chart is for the refusals to say.
-- Assumes nothing.
use Rattle.std.specs.Prelude.{cond, List, [], ◌∷◌, ℕ, zero, suc, ◌+◌, ◌*◌, ◌-◌, eqb, length, get_or, drop}

-- A field of two bytes, little-endian.
unfoldable pub field : List ℕ → ℕ → ℕ
field s at = get_or s at 0 + 256 * get_or s (at + 1) 0

-- The number that stands for no construct: outside all of them. As the number of a region it names the outermost one (02, Note 12).
abbrev pub outside : ℕ
outside = 255

-- The number is that of the innermost construct that encloses a plain node, of the construct that a begin opens or an end closes, and of the
-- parallel whose region a barrier is one of (02, Note 12). The tag is the buyer's: it is decoded, and read by nothing.
pub record Node : Type 0 where
  pub kind : ℕ
  pub number : ℕ
  pub tag : ℕ

pub record Edge : Type 0 where
  pub from : ℕ
  pub to : ℕ

-- The filter is the number of the thread that goes into a construct of kind 2 (02, Note 5).
pub record Construct : Type 0 where
  pub kind : ℕ
  pub parent : ℕ
  pub name : ℕ
  pub filter : ℕ

-- The distances are from the chart's end back to the first node, the first edge and the first construct.
pub record Trailer : Type 0 where
  pub edition : ℕ
  pub nodes : ℕ
  pub edges : ℕ
  pub constructs : ℕ
  pub to-nodes : ℕ
  pub to-edges : ℕ
  pub to-constructs : ℕ
  pub closing : ℕ

pub record Decoded : Type 0 where
  pub nodes : List Node
  pub edges : List Edge
  pub constructs : List Construct
  pub trailer : Trailer

-- The record at the front of some bytes.
unfoldable pub node_of : List ℕ → Node
node_of s = record { kind = get_or s 0 0; number = get_or s 1 0; tag = field s 2 }

unfoldable pub edge_of : List ℕ → Edge
edge_of s = record { from = get_or s 0 0; to = get_or s 1 0 }

-- In edition 2 the filter stands last; in edition 1 there is none, and it is 0.
unfoldable pub construct_of : ℕ → List ℕ → Construct
construct_of edition s = record { kind = get_or s 0 0; parent = get_or s 1 0; name = field s 2; filter = cond (eqb edition 2) (field s 4) 0 }

-- The bytes of a construct's record, and of c such records.
unfoldable pub construct_width : ℕ → ℕ
construct_width edition = cond (eqb edition 2) 6 4

unfoldable pub construct_bytes : ℕ → ℕ → ℕ
construct_bytes edition c = cond (eqb edition 2) (6 * c) (4 * c)

unfoldable pub trailer_of : List ℕ → Trailer
trailer_of s = record {
  edition = field s 0;
  nodes = field s 2;
  edges = field s 4;
  constructs = field s 6;
  to-nodes = field s 8;
  to-edges = field s 10;
  to-constructs = field s 12;
  closing = field s 14;
}

-- As many records as asked for, each of so many bytes, taken off the front one after the other.
unfoldable pub records : {A : Type 0} → (List ℕ → A) → ℕ → ℕ → List ℕ → List A
records read width zero s = []
records read width (suc n) s = read s ∷ records read width n (drop width s)

-- The bytes of a trailer.
abbrev pub trailer_size : ℕ
trailer_size = 16

-- The bytes of a chart of an edition with n nodes, e edges and c constructs.
abbrev pub size : ℕ → ℕ → ℕ → ℕ → ℕ
size edition n e c = 4 * n + 2 * e + construct_bytes edition c + trailer_size

unfoldable pub last_trailer : List ℕ → Trailer
last_trailer s = trailer_of (drop (length s - trailer_size) s)

-- Node records, edge records, construct records, then the trailer, which says how many there are of each.
unfoldable pub decode : List ℕ → Decoded
decode s =
    let t = last_trailer s in
    record {
      nodes = records node_of 4 t.nodes s;
      edges = records edge_of 2 t.edges (drop (4 * t.nodes) s);
      constructs = records (construct_of t.edition) (construct_width t.edition) t.constructs (drop (4 * t.nodes + 2 * t.edges) s);
      trailer = t;
    }

-- What stands past the last record: a plain node outside everything, an edge from 0 to 0, a construct of no kind.
abbrev pub no_node : Node
no_node = record { kind = 0; number = outside; tag = 0 }

abbrev pub no_edge : Edge
no_edge = record { from = 0; to = 0 }

abbrev pub no_construct : Construct
no_construct = record { kind = 0; parent = outside; name = 0; filter = 0 }

-- Look-ups by number, total.
unfoldable pub node_at : List Node → ℕ → Node
node_at nodes x = get_or nodes x no_node

unfoldable pub edge_at : List Edge → ℕ → Edge
edge_at edges i = get_or edges i no_edge

unfoldable pub construct_at : List Construct → ℕ → Construct
construct_at constructs c = get_or constructs c no_construct
