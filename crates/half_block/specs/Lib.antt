-- What the core of the halving says of flat lists, by place rather than by pixel.
pub mod HalfPlaces
