-- A chart read for one of its regions (02, Note 12): the region of a parallel, named by its number, or the outermost one, named by `outside`.
-- What lies outside the region is cut away. The thread that goes into a construct of kind 2 (01: master, 02: masked) is its filter.
-- Assumes nothing.
use Rattle.std.specs.Prelude.{Bool, ◌&&◌, cond, List, ℕ, ◌-◌, eqb, length}
use Rattle.lists.specs.Range.{any, first}
use Rattle.chart.specs.Format.{outside, Node, Edge, Construct, Decoded, node_at, edge_at, construct_at}
use Rattle.chart.specs.Region.{Region}
use Rattle.chart.specs.Scope.{kind_of, encloses, parent_of, lies_at, leaving_at, begin_node, end_node}
use Rattle.chart.specs.Nested.{counts_in, lies_within, kept_in, role_in}

-- An edge leads from x to y: one of the list.
unfoldable pub edge_in : List Edge → ℕ → ℕ → Bool
edge_in edges x y = any (length edges) (λ i. eqb (edge_at edges i).from x && eqb (edge_at edges i).to y)

-- Node x is inside construct c (01: inside): c is the construct that x lies in, or stands above that.
unfoldable pub inside_at : List Node → List Construct → ℕ → ℕ → Bool
inside_at nodes constructs x c = encloses (parent_of constructs) (length constructs) (lies_at nodes constructs x) c

-- The node of this kind with the number c.
unfoldable pub frame_of : List Node → ℕ → ℕ → ℕ
frame_of nodes kind c = first (length nodes) (λ x. eqb (node_at nodes x).kind kind && eqb (node_at nodes x).number c)

-- The numbers of nodes and constructs stay. An edge is the region's where it lies in it, by its scope: the edges out of its end, the one to
-- its begin among them, do not. A node is inside those constructs around it that are the region's. Start and Finish of a parallel's region are
-- its begin and its end; of the outermost one, the first node and the last.
abbrev pub region_of : ℕ → Decoded → Region
region_of p D = record {
  nodes = length D.nodes;
  constructs = length D.constructs;
  kept = kept_in D.nodes D.constructs p;
  role = λ x. role_in p (counts_in D.constructs p) (node_at D.nodes x).kind (node_at D.nodes x).number;
  edge = λ x y. edge_in D.edges x y && lies_within D.constructs p (leaving_at D.nodes D.constructs x);
  inside = λ x c. inside_at D.nodes D.constructs x c && counts_in D.constructs p c;
  kind = λ c. kind_of (construct_at D.constructs c).kind;
  parent = parent_of D.constructs;
  thread = λ c. (construct_at D.constructs c).filter;
  name = λ c. (construct_at D.constructs c).name;
  begin = frame_of D.nodes begin_node;
  end = frame_of D.nodes end_node;
  start = cond (eqb p outside) 0 (frame_of D.nodes begin_node p);
  finish = cond (eqb p outside) (length D.nodes - 1) (frame_of D.nodes end_node p);
}

-- The outermost region: every node and edge of the chart is one of it.
abbrev pub region : Decoded → Region
region D = region_of outside D
