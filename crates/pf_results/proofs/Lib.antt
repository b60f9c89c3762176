-- what is kept under keys
pub mod Keys
-- a part of a run is a run
pub mod Parts
-- the longest runs of some steps, front by front
pub mod LongestRuns
-- the steps of an extent, and which extent has them
pub mod Extents
-- a run woven of spans: one span after another
pub mod Weaving
-- what serves: one part after another
pub mod Served
-- what is kept: one extent after another
pub mod Adding
-- the cells of an extent for a part of a run
pub mod ServedParts
-- what is found, used and kept of pieces: one piece after another
pub mod Pieced
-- what is kept is true, for whoever uses it, once more is kept, and while logs grow
pub mod Growing
-- the fixed steps of a run
pub mod Edges
