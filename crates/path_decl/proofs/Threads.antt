-- A declaration may go to another thread if its allocator may.
use denote.RattleType.{RattleType}
use denote.Param.Send.{IsSend, Frees, sendable}
use Rattle.std.proofs.CrossingOver.{crosses}
use Rattle.std.specs.declared.alloc.Allocator as memory
use Rattle.std.specs.declared.cmp.PartialEq as eq
use Rattle.std.specs.declared.hash.Hash as hash
use Rattle.std.specs.declared.hash.BuildHasher as builder
use Rattle.std.specs.declared.hash.Hasher as hasher
use Rattle.std.specs.contracts.hash.BuildHasherDefault as Default
use Rattle.std.specs.contracts.hash.FoldHasher as FoldHasher
use Rattle.std.specs.contracts.vec.Vec as Vec
use Rattle.std.specs.contracts.string.String as String
use Rattle.indexmap.specs.contracts.columns.Columns as Columns
use Rattle.indexmap.specs.contracts.map.IndexMap as IndexMap
use Rattle.indexmap.specs.contracts.index_table.IndexTable as IndexTable
use Rattle.path_model.specs.contracts.ids.ResId as ResId
use Rattle.path_model.specs.contracts.ids.PathId as PathId
use Rattle.path_model.specs.contracts.resource.Law as Law
use Rattle.path_model.proofs.CallerLemmas.{expr_send}
use Rattle.path_decl.specs.contracts.decl.Decl as Decl
use Rattle.path_decl.specs.contracts.decl.Decl.TheInside as Inside
use Rattle.path_decl.specs.contracts.decl.PathEntry as PathEntry

module _ (A : RattleType) (a : memory.Ghosts A.Denot) where
  path_send : IsSend A → Frees a a.dealloc_token → IsSend (PathEntry.the_field A a).row
  path_send sa fa = let e = expr_send A a sa fa in search (sendable, crosses) depth 20

  string_send : IsSend A → Frees a a.dealloc_token → IsSend (String.the_field A a).row
  string_send sa fa = search (sendable, crosses) depth 20

  table_send : IsSend A → Frees a a.dealloc_token → IsSend (IndexTable.the_field A a).row
  table_send sa fa = search (sendable, crosses) depth 20

  columns_send : (K V : RattleType) → IsSend K → IsSend V → IsSend A → Frees a a.dealloc_token → IsSend (Columns.the_field K V A a).row
  columns_send K V sk sv sa fa = search (sendable, crosses) depth 20

  law_send : IsSend Law.the_row
  law_send = search sendable depth 20

  ids_send : IsSend ResId.the_row × IsSend PathId.the_row
  ids_send = (search sendable depth 20, search sendable depth 20)

  map_send : (K V S T : RattleType) (e : eq.Ghosts K.Denot) (h : hash.Ghosts K.Denot) (b : builder.Ghosts S.Denot T.Denot) (w : hasher.Ghosts T.Denot)
      → IsSend K → IsSend V → IsSend S → IsSend A → Frees a a.dealloc_token → IsSend (IndexMap.the_field K V S A T e h b w a).row
  map_send K V S T e h b w sk sv ss sa fa =
      let c = columns_send K V sk sv sa fa in
      let t = table_send sa fa in
      search (sendable, crosses) depth 20

  naming_send : IsSend A → Frees a a.dealloc_token → IsSend (Vec.the_field (Vec.the_row PathId.the_row A a) A a).row
  naming_send sa fa = let i = ids_send in search (sendable, crosses) depth 20

  string_row : IsSend A → Frees a a.dealloc_token → IsSend (String.the_row A a)
  string_row sa fa = let s = string_send sa fa in search sendable depth 20

  hasher_row : IsSend (Default.the_row FoldHasher.the_row)
  hasher_row = search sendable depth 20

  names_send : (V T : RattleType) (e : eq.Ghosts (String.the_row A a).Denot) (h : hash.Ghosts (String.the_row A a).Denot) (b : builder.Ghosts (Default.the_row FoldHasher.the_row).Denot T.Denot) (w : hasher.Ghosts T.Denot)
      → IsSend V → IsSend A → Frees a a.dealloc_token → IsSend (IndexMap.the_field (String.the_row A a) V (Default.the_row FoldHasher.the_row) A T e h b w a).row
  names_send V T e h b w sv sa fa = map_send (String.the_row A a) V (Default.the_row FoldHasher.the_row) T e h b w (string_row sa fa) sv hasher_row sa fa

  inside_send : IsSend A → Frees a a.dealloc_token → IsSend (Inside.the_row A a)
  inside_send sa fa =
      let p = path_send sa fa in
      let n = naming_send sa fa in
      let l = law_send in
      let i = ids_send in
      search (sendable, crosses, names_send) depth 20

  pub decl_send : IsSend A → Frees a a.dealloc_token → IsSend (Decl.the_field A a).row
  decl_send sa fa = let i = inside_send sa fa in search sendable depth 20
