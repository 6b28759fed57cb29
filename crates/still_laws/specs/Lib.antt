pub mod StillNets
