-- The and/or product of two matrices as rows of words, and a role set as two such matrices.
pub mod RoleRows
pub mod RowAfter
pub mod RowAgrees
pub mod Laws
