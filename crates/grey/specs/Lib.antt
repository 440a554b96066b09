-- What the core of the grey conversion says of flat lists, by place rather than by pixel.
pub mod GreyPlaces
