-- "Around the edges": the paper's cases, computed from the definitions; nothing else is proved here.
pub mod Cases
